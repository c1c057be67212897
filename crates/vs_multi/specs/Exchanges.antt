-- The prices of one layer put in the place of those in a table.
use Rattle.std.specs.Prelude.{◌≡◌, ◌≢◌, ℕ, ◌+◌, ◌*◌, ◌<◌, List, length, slice_range, slice_set, ℤ}
use Rattle.std.specs.List.{splice}
use Rattle.vs_instance.specs.Problem.{Problem}
use Rattle.vs_circ.specs.declared.circ.LayerPrices.{LayerPrices}
use Rattle.vs_prices.specs.declared.table.Table.{Table}
use Rattle.vs_prices.specs.Table.{prices_in, vehicle_price}

-- of rows of so many numbers each, the one of this number
abbrev pub row_of : ℕ → ℕ → List ℤ → List ℤ
row_of size row numbers = slice_range numbers (row * size) (row * size + size)

-- the numbers with these in the place of that row
abbrev pub with_row : ℕ → List ℤ → List ℤ → List ℤ
with_row row given numbers = splice numbers (row * length given) (row * length given + length given) given

-- in layer l the table has these prices
pub record HasPrices (p : Problem) (table : Table) (l : ℕ) (prices : LayerPrices) : Type 0 where
  pub into : prices_in p l table.into.items ≡ prices.into.items
  pub from : prices_in p l table.from.items ≡ prices.from.items
  pub fleet : vehicle_price table l ≡ prices.fleet

-- the one table has these prices in layer l, and all else as the other
pub record IsWithPrices (l : ℕ) (prices : LayerPrices) (old new : Table) : Type 0 where
  pub into : new.into.items ≡ with_row l prices.into.items old.into.items
  pub from : new.from.items ≡ with_row l prices.from.items old.from.items
  pub fleet : new.fleet.items ≡ slice_set old.fleet.items l prices.fleet
  pub ray : new.ray ≡ old.ray

-- in every other layer both tables have the same prices
pub record AgreeBut (p : Problem) (l : ℕ) (old new : Table) : Type 0 where
  pub into : (k : ℕ) → k < length p.layers → k ≢ l → prices_in p k new.into.items ≡ prices_in p k old.into.items
  pub from : (k : ℕ) → k < length p.layers → k ≢ l → prices_in p k new.from.items ≡ prices_in p k old.from.items
  pub fleet : (k : ℕ) → k < length p.layers → k ≢ l → vehicle_price new k ≡ vehicle_price old k
