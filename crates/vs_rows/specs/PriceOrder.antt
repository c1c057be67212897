-- The rows of prices that a table has, in order.
use Rattle.std.specs.Prelude.{◌≡◌, ℕ, ◌-◌, ◌==◌, List, ◌∷◌, length, map, filter, flat_map}
use Rattle.std.specs.Int.{bit_at}
use Rattle.std.specs.List.{range_with_len}
use Rattle.vs_instance.specs.Problem.{Problem}
use Rattle.vs_instance.specs.Ways.{trip_of}
use Rattle.vs_prices.specs.Table.{IsPrice}
use Rattle.vs_rows.specs.DocumentRows.{DocumentRow, FleetRow, PriceRow, permitted_trips}
use Rattle.vs_rows.specs.declared.priced.Priced.{Priced}
use Rattle.vs_rows.specs.declared.priced.Priced.TheVariants as priced

-- a row of prices: of a layer's vehicle, or of a layer and a trip
pub data PriceOf : Type 0 where
  Vehicle : ℕ → PriceOf
  Trip : ℕ → ℕ → PriceOf

-- the rows of prices that a table has, in order
abbrev pub prices_of : Problem → List PriceOf
prices_of p = flat_map (λ l. Vehicle l ∷ map (Trip l) (permitted_trips p l)) (range_with_len 0 (length p.layers))

-- those from layer l on
abbrev pub prices_from : Problem → ℕ → List PriceOf
prices_from p l =
    flat_map (λ k. Vehicle k ∷ map (Trip k) (permitted_trips p k)) (range_with_len l (length p.layers - l))

-- the trips from i on that layer l may run
abbrev pub trips_from : Problem → ℕ → ℕ → List ℕ
trips_from p l i = filter (λ k. bit_at (trip_of p k).layers.0 l == 1) (range_with_len i (length p.trips - i))

-- what is said is said by this row of prices
abbrev pub IsOf : PriceOf → DocumentRow → Type 0
IsOf (Vehicle l) (FleetRow layer price) = layer ≡ l
IsOf (Trip l i) (PriceRow layer trip into from) = (layer ≡ l) × (trip ≡ i)
IsOf price said = ⊥

-- what is given for a price is one
abbrev pub HasPrices : DocumentRow → Type 0
HasPrices (FleetRow l price) = IsPrice price
HasPrices (PriceRow l i into from) = IsPrice into × IsPrice from
HasPrices said = Unit {0}

-- a row of prices says this
abbrev pub IsPriceRow : DocumentRow → Type 0
IsPriceRow (FleetRow l price) = Unit {0}
IsPriceRow (PriceRow l i into from) = Unit {0}
IsPriceRow said = ⊥

-- what was read of one
abbrev pub priced_row : Priced → DocumentRow
priced_row (priced.Vehicle layer price) = FleetRow layer.0 price
priced_row (priced.Trip layer trip into from) = PriceRow layer.0 trip.0 into from
