-- Blocks of a layer as circulations of its net, and what a set of trips costs by either.
use Rattle.std.specs.Prelude.{◌≡◌, ℕ, ◌*◌, ◌≤◌, ◌↔◌, Bool, IsTrue, List, length, Option, Some, None, slice_index, ℤ, pos, ◌≤ℤ◌}
use Rattle.vs_layer.specs.Circulation.{IsCirculation, flow_cost}
use Rattle.vs_types.specs.declared.numbers.LayerNo.{LayerNo}
use Rattle.vs_instance.specs.Problem.{Problem}
use Rattle.vs_instance.specs.Plan.{LayerBlock, plan_cost, times_run}
use Rattle.vs_instance.specs.Lagrangian.{AreBlocksOf}
use Rattle.vs_match.specs.Decomposition.{vehicles_of, RunTheSame}
use Rattle.vs_match.specs.LayerGraph.{LayerGraph, IsArcOfTrip}

-- blocks of layer l alone, no more than it has vehicles, in which no trip stands twice
abbrev pub AreLayerBlocks : Problem → LayerNo → List LayerBlock → Type 0
AreLayerBlocks p l blocks = AreBlocksOf p l (λ i. Unit {0}) blocks

-- a circulation that runs the trips of these blocks, with as many vehicles, at exactly their cost
pub record Compose (p : Problem) (n : LayerGraph) (blocks : List LayerBlock) (units : List ℕ) : Type 0 where
  pub circulation : IsCirculation n.graph units
  pub vehicles : vehicles_of n units ≡ length blocks
  pub trips : RunTheSame n units blocks
  pub cost : flow_cost n.graph units ≡ pos (1000 * plan_cost p blocks)

-- Below, a set of trips is a test on their numbers.

-- blocks of layer l that run exactly the trips of the set
pub record BlocksRun (p : Problem) (l : LayerNo) (chosen : ℕ → Bool) (blocks : List LayerBlock) : Type 0 where
  pub of_layer : AreLayerBlocks p l blocks
  pub exactly : (i : ℕ) → IsTrue (chosen i) ↔ (times_run blocks i ≡ 1)

-- trip i has an arc that carries one unit
abbrev pub CarriesTrip : LayerGraph → List ℕ → ℕ → Type 0
CarriesTrip n units i = (k : ℕ) × IsArcOfTrip n.kinds i k × (slice_index units k ≡ 1)

-- a circulation that runs exactly the trips of the set
pub record UnitsRun (n : LayerGraph) (chosen : ℕ → Bool) (units : List ℕ) : Type 0 where
  pub circulation : IsCirculation n.graph units
  pub exactly : (i : ℕ) → IsTrue (chosen i) ↔ CarriesTrip n units i

-- the least cost of blocks of layer l that run exactly the trips of the set: None exactly where there are none
abbrev pub IsLeastOfBlocks : Problem → LayerNo → (ℕ → Bool) → Option ℕ → Type 0
IsLeastOfBlocks p l chosen None = (blocks : List LayerBlock) → ¬ (BlocksRun p l chosen blocks)
IsLeastOfBlocks p l chosen (Some cost) =
    ((blocks : List LayerBlock) × BlocksRun p l chosen blocks × (plan_cost p blocks ≡ cost))
    × ((blocks : List LayerBlock) → BlocksRun p l chosen blocks → cost ≤ plan_cost p blocks)

-- the least cost of the net's circulations that run exactly the trips of the set: None exactly where there are none
abbrev pub IsLeastOfUnits : LayerGraph → (ℕ → Bool) → Option ℤ → Type 0
IsLeastOfUnits n chosen None = (units : List ℕ) → ¬ (UnitsRun n chosen units)
IsLeastOfUnits n chosen (Some cost) =
    ((units : List ℕ) × UnitsRun n chosen units × (flow_cost n.graph units ≡ cost))
    × ((units : List ℕ) → UnitsRun n chosen units → cost ≤ℤ flow_cost n.graph units)
