-- What trips are paid for, in 1/1000 of a cost unit.
use Rattle.std.specs.Prelude.{◌≡◌, ℕ, ◌*◌, ◌<◌, ◌≤◌, List, [], ◌∷◌, length, Option, Some, None, ℤ, nat_abs, pos, ◌≤ℤ◌}
use Rattle.std.specs.Int.{int_min, int_max}
use Rattle.vs_types.specs.declared.layer_set.LayerSet.{LayerSet}
use Rattle.vs_types.specs.declared.numbers.LayerNo.{LayerNo}
use Rattle.vs_types.specs.declared.numbers.TripNo.{TripNo}
use Rattle.vs_instance.specs.Problem.{Problem}
use Rattle.vs_instance.specs.Blocks.{block_cost}
use Rattle.vs_instance.specs.Lagrangian.{HasOwnBlock, IsStart, multiplier_of}
use Rattle.vs_prices.specs.declared.table.Table.{Table}
use Rattle.vs_prices.specs.Worth.{least_price}
use Rattle.vs_multi.specs.declared.starting.TheConstants.{MAX_OWN_COST}
use Rattle.vs_instance.specs.declared.limits.TheConstants.{MAX_DEAREST_SUM, MAX_MULTIPLIER}
use Rattle.vs_instance.specs.Dearest.{most_multiplier}

-- what the block of trip i alone costs in layer l, None where there is no such block
abbrev pub IsOwnCost : Problem → LayerNo → TripNo → Option ℤ → Type 0
IsOwnCost p l i None = ¬ (HasOwnBlock p l i)
IsOwnCost p l i (Some cost) = HasOwnBlock p l i × (cost ≡ pos (block_cost p l (i ∷ [])))

-- the block of trip i alone in layer l is the cheapest of those in the layers below n
abbrev pub IsCheapestAlone : Problem → ℕ → TripNo → LayerNo → Type 0
IsCheapestAlone p n i l =
    (m : LayerNo) → m.0 < n → HasOwnBlock p m i → block_cost p l (i ∷ []) ≤ block_cost p m (i ∷ [])

-- what the cheapest of these costs, None where there is none
abbrev pub IsLeastOwnCost : Problem → ℕ → TripNo → Option ℤ → Type 0
IsLeastOwnCost p n i None = (l : LayerNo) → l.0 < n → ¬ (HasOwnBlock p l i)
IsLeastOwnCost p n i (Some cost) = (l : LayerNo) × IsOwnCost p l i (Some cost) × IsCheapestAlone p n i l

-- no block of one trip costs more, where there are so many trips
abbrev pub MayCostAlone : ℕ → ℤ → Type 0
MayCostAlone trips cost =
    (pos 0 ≤ℤ cost) × (cost ≤ℤ MAX_OWN_COST) × (trips * nat_abs cost ≤ 3 * MAX_DEAREST_SUM)

-- not below 0, nor beyond the limit or that of so many trips
abbrev pub IsMultiplier : ℕ → ℤ → Type 0
IsMultiplier trips multiplier =
    (pos 0 ≤ℤ multiplier) × (multiplier ≤ℤ MAX_MULTIPLIER) × (multiplier ≤ℤ pos (most_multiplier trips))

-- so for each of as many trips
abbrev pub AreWithin : List ℤ → Type 0
AreWithin multipliers = (i : ℕ) → IsMultiplier (length multipliers) (multiplier_of multipliers i)

-- a multiplier for each trip, within these limits
pub record AreMultipliers (p : Problem) (multipliers : List ℤ) : Type 0 where
  pub each_trip : length multipliers ≡ length p.trips
  pub within : AreWithin multipliers

-- a multiplier for each trip, the one to begin with
pub record AreStarts (p : Problem) (multipliers : List ℤ) : Type 0 where
  pub each_trip : length multipliers ≡ length p.trips
  pub start : (i : TripNo) → i.0 < length p.trips → IsStart p i (multiplier_of multipliers i.0)

-- a price, or the limit of multipliers that it is beyond
abbrev pub limited : ℤ → ℤ → ℤ
limited most price = int_min (int_max price (pos 0)) most

-- the limit of multipliers of a problem
abbrev pub greatest_paid : Problem → ℤ
greatest_paid p = pos (most_multiplier (length p.trips))

-- a multiplier for each trip: what it pays in the cheapest layer of its set
pub record AreOfTable (p : Problem) (sets : List LayerSet) (table : Table) (multipliers : List ℤ) : Type 0 where
  pub each_trip : length multipliers ≡ length p.trips
  pub price : (i : ℕ) → i < length p.trips
      → multiplier_of multipliers i ≡ limited (greatest_paid p) (least_price p sets table i)
