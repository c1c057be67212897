-- What holds of the greedy rule and of faults in every instance.
use Rattle.std.specs.Prelude.{◌≡◌, ◌↔◌, List, [], All}
use Rattle.vs_instance.specs.Problem.{Problem}
use Rattle.vs_instance.specs.Plan.{IsPlan, LayerBlock}
use Rattle.vs_plan.specs.Blocks.{IsOfInstance}
use Rattle.vs_plan.specs.PlanFaults.{faults_of}
use Rattle.vs_plan.specs.Greedy.{GreedyGives, GreedyGetsStuck}

-- the greedy rule gives at most one list of blocks, and where it gives one it doesn't get stuck
pub record GreedyGivesOneAnswer (p : Problem) : Type 0 where
  pub once : (a b : List LayerBlock) → GreedyGives p a → GreedyGives p b → a ≡ b
  pub never_stuck : (a : List LayerBlock) → GreedyGives p a → ¬ (GreedyGetsStuck p)

-- blocks with numbers of the instance have no fault exactly where they are a plan
abbrev pub FaultlessBlocksArePlans : Problem → Type 0
FaultlessBlocksArePlans p = (blocks : List LayerBlock) → All (IsOfInstance p) blocks
    → (faults_of p blocks ≡ []) ↔ IsPlan p blocks
