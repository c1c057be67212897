use Rattle.std.proofs.Common.{ℕ, ◌<◌}
use Rattle.vs_tree.specs.History.{IsHeldBy}
use Rattle.vs_tree.specs.Search.{state}
use Rattle.test_crew.proofs.trees.worked.is_idle.Given as goal

abbrev pub invariant-loop-k : goal.invariant-loop-k
invariant-loop-k l = (k : ℕ) → k < l.k → ¬ (IsHeldBy (state l.tree) l.w k)
