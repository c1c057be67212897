-- How far the rows of a table have been read, and which row is wrong there.
use Rattle.std.specs.Prelude.{◌≡◌, ◌≢◌, ℕ, ◌+◌, ◌<◌, ◌≤◌, Bool, List, [], ◌∷◌, ◌++◌, length, map, All, ℤ, pos, ◌⊎◌}
use Rattle.vs_instance.specs.Problem.{Problem}
use Rattle.vs_instance.specs.Ways.{Permitted}
use Rattle.vs_instance.specs.HoldingTable.{price_of}
use Rattle.vs_prices.specs.Table.{IsPrice, Fits}
use Rattle.vs_prices.specs.declared.table.Table.{Table}
use Rattle.vs_reader.specs.declared.input.Input.{Input}
use Rattle.vs_rows.specs.declared.limits.TheConstants.{MAX_NUMBER}
use Rattle.vs_rows.specs.declared.wrong.PriceWhy.{PriceWhy}
use Rattle.vs_rows.specs.declared.wrong.PriceWhy.TheVariants.{Another, Range}
use Rattle.vs_rows.specs.declared.wrong.TableError.{TableError}
use Rattle.vs_rows.specs.declared.wrong.TableError.TheVariants as error
use Rattle.vs_rows.specs.DocumentRows.{DocumentRow, TableRow, FleetRow, PriceRow, permitted_trips, table_rows}
use Rattle.vs_rows.specs.DocumentText.{IsBlankElsewhere}
use Rattle.vs_rows.specs.PriceOrder.{PriceOf, Trip, HasPrices, IsOf, prices_of, prices_from}
use Rattle.vs_rows.specs.RowForms.{SaysThere}
use Rattle.vs_rows.specs.Standing.{StandFrom}

-- a row is this row of prices
pub record IsThere (input : Input) (row : ℕ) (price : PriceOf) (said : DocumentRow) : Type 0 where
  pub here : row < length input.rest
  pub says : SaysThere input row said
  pub is_of : IsOf price said

-- a row isn't this row of prices, or has a number that is no price
abbrev pub IsWrong : Input → ℕ → PriceOf → PriceWhy → Type 0
IsWrong input row price Another =
    (row ≤ length input.rest) × ((said : DocumentRow) → SaysThere input row said → ¬ (IsOf price said))
IsWrong input row price Range = (said : DocumentRow) × IsThere input row price said × ¬ (HasPrices said)

-- it is this row of prices, and has some
pub record IsRight (input : Input) (row : ℕ) (price : PriceOf) (said : DocumentRow) : Type 0 where
  pub there : IsThere input row price said
  pub prices : HasPrices said

-- of the rows from one on, where these rows of prices have to come, the first that is wrong is told and why
abbrev pub AreWrongFrom : Input → ℕ → List PriceOf → ℕ → PriceWhy → Type 0
AreWrongFrom input at [] row why = ⊥
AreWrongFrom input at (price ∷ prices) row why =
    ((row ≡ at) × IsWrong input at price why)
    ⊎ ((said : DocumentRow) × IsRight input at price said × AreWrongFrom input (at + 1) prices row why)

abbrev pub IsWrongAt : Input → ℕ → List PriceOf → TableError → Type 0
IsWrongAt input at prices (error.Prices row why) = AreWrongFrom input at prices row why
IsWrongAt input at prices error.NoTable = ⊥
IsWrongAt input at prices error.Number = ⊥
IsWrongAt input at prices error.Memory = Unit {0}

-- these rows of prices are there, and then those come: what is wrong behind them is wrong before them
pub record PassTo (input : Input) (at : ℕ) (prices : List PriceOf) (to : ℕ) (later : List PriceOf) : Type 0 where
  pub wrong : (e : TableError) → IsWrongAt input to later e → IsWrongAt input at prices e

-- the rows of prices for entering and for leaving these trips
abbrev pub price_rows : ℕ → (ℕ → ℤ) → (ℕ → ℤ) → List ℕ → List DocumentRow
price_rows l into from trips = map (λ k. PriceRow l k (into k) (from k)) trips

-- what a layer adds to the prices of a table: one for entering and one for leaving each trip, 0 where it may not run
-- the trip
pub record AddsPrices (p : Problem) (l : ℕ) (old new : Table) (into from : List ℤ) : Type 0 where
  pub into_is : new.into.items ≡ old.into.items ++ into
  pub from_is : new.from.items ≡ old.from.items ++ from
  pub into_size : length into ≡ length p.trips
  pub from_size : length from ≡ length p.trips
  pub into_prices : All IsPrice into
  pub from_prices : All IsPrice from
  pub blank : (i : ℕ) → i < length p.trips → ¬ (Permitted p l i) → (price_of into i ≡ pos 0) × (price_of from i ≡ pos 0)
  pub ray_is : new.ray ≡ old.ray

-- the row tells a vehicle's price in layer l, and a trip's prices there
pub record ReadsFleet (input : Input) (row l : ℕ) (price : ℤ) : Type 0 where
  pub is_price : IsPrice price
  pub here : row < length input.rest
  pub says : SaysThere input row (FleetRow l price)

pub record ReadsPrice (input : Input) (row l i : ℕ) (prices : ℤ × ℤ) : Type 0 where
  pub into_price : IsPrice prices.0
  pub from_price : IsPrice prices.1
  pub here : row < length input.rest
  pub says : SaysThere input row (PriceRow l i prices.0 prices.1)

-- the rows from one on to before another are those of a layer's trips, whose prices are added to the table; where other
-- rows come later they lead to these
pub record ReadsPrices (input : Input) (at l to : ℕ) (old new : Table) : Type 0 where
  pub into : List ℤ
  pub from : List ℤ
  pub adds : AddsPrices input.instance l old new into from
  pub fleet_is : new.fleet.items ≡ old.fleet.items
  pub further : at ≤ to
  pub stand : StandFrom input at (price_rows l (price_of into) (price_of from) (permitted_trips input.instance l)) to
  pub pass : (later : List PriceOf)
      → PassTo input at (map (Trip l) (permitted_trips input.instance l) ++ later) to later

-- the same of all rows of a layer
pub record ReadsLayer (input : Input) (at l to : ℕ) (old new : Table) : Type 0 where
  pub into : List ℤ
  pub from : List ℤ
  pub fleet : ℤ
  pub adds : AddsPrices input.instance l old new into from
  pub fleet_is : new.fleet.items ≡ old.fleet.items ++ fleet ∷ []
  pub fleet_price : IsPrice fleet
  pub further : at ≤ to
  pub stand : StandFrom input at (FleetRow l fleet ∷ price_rows l (price_of into) (price_of from)
      (permitted_trips input.instance l)) to
  pub pass : PassTo input at (prices_from input.instance l) to (prices_from input.instance (l + 1))

-- a table of this kind without prices
pub record IsEmptyTable (ray : Bool) (table : Table) : Type 0 where
  pub into : table.into.items ≡ []
  pub from : table.from.items ≡ []
  pub fleet : table.fleet.items ≡ []
  pub ray_is : table.ray ≡ ray

-- the row begins a table of this kind behind n others
pub record ReadsKind (input : Input) (at n : ℕ) (ray : Bool) : Type 0 where
  pub number : n + 1 ≤ MAX_NUMBER
  pub here : at < length input.rest
  pub says : SaysThere input at (TableRow (n + 1) ray)

-- the rows from one on to before another are those of a table behind n others
pub record ReadsTable (input : Input) (at n to : ℕ) (table : Table) : Type 0 where
  pub fits : Fits input.instance table
  pub blank : IsBlankElsewhere input.instance table
  pub number : n + 1 ≤ MAX_NUMBER
  pub further : at < to
  pub stand : StandFrom input at (table_rows input.instance (n + 1, table)) to

-- the row tells a table of another number than the next
pub record HasAnotherNumber (input : Input) (at n : ℕ) : Type 0 where
  pub number : ℕ
  pub ray : Bool
  pub here : at < length input.rest
  pub says : SaysThere input at (TableRow number ray)
  pub another : number ≢ n + 1

-- The rows from one on are no table behind n others: the first tells none, or one of another number; or it tells this
-- one, of whose rows of prices one is wrong.
abbrev pub IsNoTable : Input → ℕ → ℕ → TableError → Type 0
IsNoTable input at n error.NoTable = (number : ℕ) (ray : Bool) → ¬ (SaysThere input at (TableRow number ray))
IsNoTable input at n error.Number = HasAnotherNumber input at n
IsNoTable input at n (error.Prices row why) =
    (ray : Bool) × ReadsKind input at n ray × AreWrongFrom input (at + 1) (prices_of input.instance) row why
IsNoTable input at n error.Memory = Unit {0}
