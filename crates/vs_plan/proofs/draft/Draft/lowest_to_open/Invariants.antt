use Rattle.std.proofs.Common.{ℕ, ◌<◌}
use Rattle.vs_plan.specs.Blocks.{pairs_of}
use Rattle.vs_plan.specs.Greedy.{CanOpen}
use Rattle.vs_plan.proofs.draft.Draft.lowest_to_open.Given as goal

abbrev pub invariant-loop-l : goal.invariant-loop-l
invariant-loop-l l = (m : ℕ) → m < l.l → ¬ (CanOpen l.instance (pairs_of l.self.blocks.items) l.i.0 m)
