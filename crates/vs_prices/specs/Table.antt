-- A table of prices, and when it holds.
use Rattle.std.specs.Prelude.{◌≡◌, ℕ, ◌+◌, ◌*◌, ◌<◌, List, length, All, slice_range, ℤ, pos, neg_ℤ, ◌≤ℤ◌}
use Rattle.vs_instance.specs.Problem.{Problem}
use Rattle.vs_instance.specs.HoldingTable.{HoldsInLayer, price_of}
use Rattle.vs_prices.specs.declared.table.Table.{Table}
use Rattle.vs_instance.specs.declared.limits.TheConstants.{MAX_PRICE}

-- of prices that stand layer by layer, those of layer l, one per trip
abbrev pub prices_in : Problem → ℕ → List ℤ → List ℤ
prices_in p l prices = slice_range prices (l * length p.trips) (l * length p.trips + length p.trips)

-- the price for entering trip i in layer l, and the one for leaving it
abbrev pub into_price : Problem → Table → ℕ → ℕ → ℤ
into_price p table l i = price_of (prices_in p l table.into.items) i

abbrev pub from_price : Problem → Table → ℕ → ℕ → ℤ
from_price p table l i = price_of (prices_in p l table.from.items) i

-- the price of one vehicle of layer l
abbrev pub vehicle_price : Table → ℕ → ℤ
vehicle_price table l = price_of table.fleet.items l

abbrev pub IsPrice : ℤ → Type 0
IsPrice n = (neg_ℤ MAX_PRICE ≤ℤ n) × (n ≤ℤ MAX_PRICE)

-- a table of the instance's size, each number of which is a price
pub record Fits (p : Problem) (table : Table) : Type 0 where
  pub into_size : length table.into.items ≡ length p.layers * length p.trips
  pub from_size : length table.from.items ≡ length p.layers * length p.trips
  pub fleet_size : length table.fleet.items ≡ length p.layers
  pub into : All IsPrice table.into.items
  pub from : All IsPrice table.from.items
  pub fleet : All IsPrice table.fleet.items

-- the prices hold in every layer
abbrev pub HoldingTable : Problem → Table → Type 0
HoldingTable p table = (l : ℕ) → l < length p.layers
    → HoldsInLayer p l table.ray (prices_in p l table.into.items) (prices_in p l table.from.items)
    (vehicle_price table l)

-- every price is 0
pub record AreZeros (table : Table) : Type 0 where
  pub into : All (λ n. n ≡ pos 0) table.into.items
  pub from : All (λ n. n ≡ pos 0) table.from.items
  pub fleet : All (λ n. n ≡ pos 0) table.fleet.items
