-- What holds of every problem that counts vehicles.
use Rattle.std.specs.Prelude.{◌≡◌, ◌↔◌, ℕ, ◌<◌, ◌≤◌, List, length}
use Rattle.vs_types.specs.declared.numbers.LayerNo.{LayerNo}
use Rattle.vs_instance.specs.Problem.{Problem}
use Rattle.vs_instance.specs.Instance.{IsInstance}
use Rattle.vs_instance.specs.Plan.{IsPlan, LayerBlock, plan_cost}
use Rattle.vs_peakcheck.specs.Counting.{counting, own_blocks}
use Rattle.vs_peakcheck.specs.Peak.{HasNoPeak, IsPeak, RunAll}

-- The plans of the counting problem are the lists of blocks of layer l that run all that it may run, and cost as much
-- as they are long.
pub record CountsVehicles (p : Problem) (l : LayerNo) : Type 0 where
  pub instance : IsInstance (counting p l.0)
  pub runs : (blocks : List LayerBlock) → IsPlan (counting p l.0) blocks → RunAll p l (own_blocks p l blocks)
  pub plans : (list : List LayerBlock) → RunAll p l list
      → (blocks : List LayerBlock) × IsPlan (counting p l.0) blocks × (own_blocks p l blocks ≡ list)
  pub cost : (blocks : List LayerBlock) → IsPlan (counting p l.0) blocks
      → plan_cost (counting p l.0) blocks ≡ length blocks

abbrev pub PlansCountVehicles : Type 0
PlansCountVehicles = (p : Problem) (l : LayerNo) → IsInstance p → l.0 < length p.layers → CountsVehicles p l

-- n is what a plan costs, and none costs less
pub record IsLeastCost (p : Problem) (n : ℕ) : Type 0 where
  pub blocks : List LayerBlock
  pub plan : IsPlan p blocks
  pub cost : plan_cost p blocks ≡ n
  pub least : (others : List LayerBlock) → IsPlan p others → n ≤ plan_cost p others

-- the peak is the least cost of a plan of the counting problem, and there is none where it has no plan
pub record IsALeastCost (p : Problem) (l : LayerNo) : Type 0 where
  pub peak : (n : ℕ) → IsPeak p l n ↔ IsLeastCost (counting p l.0) n
  pub none : HasNoPeak p l ↔ ((blocks : List LayerBlock) → ¬ (IsPlan (counting p l.0) blocks))

abbrev pub EachPeakIsALeastCost : Type 0
EachPeakIsALeastCost = (p : Problem) (l : LayerNo) → IsInstance p → l.0 < length p.layers → IsALeastCost p l
