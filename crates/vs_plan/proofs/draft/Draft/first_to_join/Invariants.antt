use Rattle.std.proofs.Common.{ℕ, ◌<◌}
use Rattle.vs_plan.specs.Blocks.{pairs_of}
use Rattle.vs_plan.specs.Greedy.{CanJoin, block_at}
use Rattle.vs_plan.proofs.draft.Draft.first_to_join.Given as goal

abbrev pub invariant-loop-k : goal.invariant-loop-k
invariant-loop-k l = (m : ℕ) → m < l.k → ¬ (CanJoin l.instance l.i.0 (block_at (pairs_of l.self.blocks.items) m))
