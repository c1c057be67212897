-- What the prices of one layer show of its blocks.
use Rattle.std.specs.Prelude.{◌≡◌, ℕ, Bool, false, if◌then◌else◌, List, length, map, All, Option, Some, None, ℤ, pos, neg_ℤ, ◌+ℤ◌, ◌-ℤ◌, ◌*ℤ◌, ◌≤ℤ◌, slice_index_or}
use Rattle.std.specs.Int.{int_min}
use Rattle.std.specs.List.{range_with_len}
use Rattle.vs_instance.specs.Problem.{Problem}
use Rattle.vs_instance.specs.Ways.{layer_of}
use Rattle.vs_instance.specs.Pieces.{trip_piece}
use Rattle.vs_instance.specs.HoldingTable.{HoldsInLayer, price_of, scaled}
use Rattle.vs_instance.specs.Lagrangian.{total}
use Rattle.vs_circ.specs.declared.circ.LayerPrices.{LayerPrices}
use Rattle.vs_instance.specs.declared.limits.TheConstants.{MAX_PRICE}
use Rattle.vs_circ.specs.Offers.{offer_of}

-- what trip i pays in layer l: the price for entering it and its own cost, less the price for leaving it
abbrev pub trip_pays : Problem → ℕ → Bool → LayerPrices → ℕ → ℤ
trip_pays p l ray prices i =
    (price_of prices.into.items i +ℤ scaled ray (trip_piece p l i)) -ℤ price_of prices.from.items i

-- what all vehicles of layer l pay together
abbrev pub vehicles_pay : Problem → ℕ → LayerPrices → ℤ
vehicles_pay p l prices = prices.fleet *ℤ pos (layer_of p l).fleet

-- a trip that is offered for a multiplier pays what it gains by being left out, or nothing where it isn't offered
abbrev pub pays_at : Option ℤ → ℤ → ℤ
pays_at None pays = pos 0
pays_at (Some multiplier) pays = int_min (pos 0) (pays -ℤ multiplier)

abbrev pub trip_numbers : Problem → List ℕ
trip_numbers p = range_with_len 0 (length p.trips)

-- what no blocks of offered trips fall below, once their multipliers are taken off
abbrev pub shown_of_offers : Problem → ℕ → List (Option ℤ) → LayerPrices → ℤ
shown_of_offers p l offers prices =
    total (map (λ i. pays_at (offer_of offers i) (trip_pays p l false prices i)) (trip_numbers p))
    -ℤ vehicles_pay p l prices

-- what no blocks that run exactly these trips fall below
abbrev pub shown_of_trips : Problem → ℕ → Bool → List Bool → LayerPrices → ℤ
shown_of_trips p l ray must prices =
    total (map (λ i. if slice_index_or must i false then trip_pays p l ray prices i else pos 0) (trip_numbers p))
    -ℤ vehicles_pay p l prices

abbrev pub IsPrice : ℤ → Type 0
IsPrice n = (neg_ℤ MAX_PRICE ≤ℤ n) × (n ≤ℤ MAX_PRICE)

-- a price for entering and one for leaving each trip, none beyond the greatest, that hold in layer l
pub record AreHolding (p : Problem) (l : ℕ) (ray : Bool) (prices : LayerPrices) : Type 0 where
  pub into_size : length prices.into.items ≡ length p.trips
  pub from_size : length prices.from.items ≡ length p.trips
  pub into : All IsPrice prices.into.items
  pub from : All IsPrice prices.from.items
  pub fleet : IsPrice prices.fleet
  pub holds : HoldsInLayer p l ray prices.into.items prices.from.items prices.fleet
