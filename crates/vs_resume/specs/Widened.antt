-- A table of a part, widened to the instance.
use Rattle.std.specs.Prelude.{◌≡◌, ◌≢◌, ℕ, ◌+◌, ◌*◌, ◌<◌, List, length, ℤ, neg_ℤ}
use Rattle.vs_types.specs.declared.layer_set.LayerSet.{LayerSet}
use Rattle.vs_types.specs.LayerSet.{Has}
use Rattle.vs_instance.specs.HoldingTable.{price_of}
use Rattle.vs_instance.specs.declared.limits.TheConstants.{MAX_PRICE}
use Rattle.vs_instance.specs.Problem.{Problem}
use Rattle.vs_instance.specs.Restriction.{set_of}
use Rattle.vs_instance.specs.Ways.{Permitted}
use Rattle.vs_prices.specs.declared.table.Table.{Table}
use Rattle.vs_prices.specs.Table.{from_price, into_price}

-- layer l may run trip i in the instance, and may not in the part
abbrev pub IsLeftOut : Problem → List LayerSet → ℕ → ℕ → Type 0
IsLeftOut p sets l i = Permitted p l i × ¬ (Has (set_of sets i) l)

-- The prices for entering trips that the part leaves out are the least that there are, and those for leaving them the
-- greatest. All others are as before.
pub record IsWidened (p : Problem) (sets : List LayerSet) (old new : Table) : Type 0 where
  pub ray : new.ray ≡ old.ray
  pub fleet : new.fleet ≡ old.fleet
  pub into_size : length new.into.items ≡ length old.into.items
  pub from_size : length new.from.items ≡ length old.from.items
  pub into_left_out : (l i : ℕ) → l < length p.layers → i < length p.trips → IsLeftOut p sets l i
      → into_price p new l i ≡ neg_ℤ MAX_PRICE
  pub from_left_out : (l i : ℕ) → l < length p.layers → i < length p.trips → IsLeftOut p sets l i
      → from_price p new l i ≡ MAX_PRICE
  pub into_kept : (l i : ℕ) → l < length p.layers → i < length p.trips → ¬ (IsLeftOut p sets l i)
      → into_price p new l i ≡ into_price p old l i
  pub from_kept : (l i : ℕ) → l < length p.layers → i < length p.trips → ¬ (IsLeftOut p sets l i)
      → from_price p new l i ≡ from_price p old l i

-- the price that trip i has in layer l after it was widened: this one where it is left out, else its own
pub record IsSettled (p : Problem) (sets : List LayerSet) (l i : ℕ) (price own result : ℤ) : Type 0 where
  pub left_out : IsLeftOut p sets l i → result ≡ price
  pub kept : ¬ (IsLeftOut p sets l i) → result ≡ own

-- the place of trip i in layer l, in prices that stand layer by layer
abbrev pub place_of : Problem → ℕ → ℕ → ℕ
place_of p l i = l * length p.trips + i

-- the prices of layer l are widened, and those of the others are as before
pub record IsLayerWidened (p : Problem) (sets : List LayerSet) (l : ℕ) (price : ℤ) (old new : List ℤ) : Type 0 where
  pub size : length new ≡ length old
  pub layer : (i : ℕ) → i < length p.trips
      → IsSettled p sets l i price (price_of old (place_of p l i)) (price_of new (place_of p l i))
  pub others : (k i : ℕ) → k ≢ l → i < length p.trips → price_of new (place_of p k i) ≡ price_of old (place_of p k i)

-- the prices of all layers are widened
pub record ArePricesWidened (p : Problem) (sets : List LayerSet) (price : ℤ) (old new : List ℤ) : Type 0 where
  pub size : length new ≡ length old
  pub layers : (l i : ℕ) → l < length p.layers → i < length p.trips
      → IsSettled p sets l i price (price_of old (place_of p l i)) (price_of new (place_of p l i))
