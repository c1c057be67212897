-- Circulations of a layer's net as blocks.
use Rattle.std.specs.Prelude.{◌≡◌, ℕ, ◌-◌, ◌*◌, ◌≤◌, List, length, All, slice_index, pos, ◌≤ℤ◌}
use Rattle.vs_layer.specs.Circulation.{flow_cost}
use Rattle.vs_types.specs.declared.numbers.LayerNo.{LayerNo}
use Rattle.vs_instance.specs.Problem.{Problem}
use Rattle.vs_instance.specs.Blocks.{IsBlock}
use Rattle.vs_instance.specs.Plan.{LayerBlock, plan_cost, times_run}
use Rattle.vs_match.specs.LayerGraph.{LayerGraph, IsArcOfTrip}

-- the units on the return arc, which is the last: as many vehicles are used
abbrev pub vehicles_of : LayerGraph → List ℕ → ℕ
vehicles_of n units = slice_index units (length n.graph.arcs - 1)

-- the blocks run each trip as often as its arc carries units
abbrev pub RunTheSame : LayerGraph → List ℕ → List LayerBlock → Type 0
RunTheSame n units blocks = (i k : ℕ) → IsArcOfTrip n.kinds i k → times_run blocks i ≡ slice_index units k

-- blocks of layer l that run the trips of these units, with no more vehicles, and cost no more
pub record Decompose (p : Problem) (l : LayerNo) (n : LayerGraph) (units : List ℕ)
    (blocks : List LayerBlock) : Type 0 where
  pub each_block : All (λ b. (b.0 ≡ l) × IsBlock p l b.1) blocks
  pub vehicles : length blocks ≤ vehicles_of n units
  pub trips : RunTheSame n units blocks
  pub no_dearer : pos (1000 * plan_cost p blocks) ≤ℤ flow_cost n.graph units
