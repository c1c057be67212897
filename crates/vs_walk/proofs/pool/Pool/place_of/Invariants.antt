use Rattle.std.proofs.Common.{◌≤◌}
use Rattle.vs_walk.proofs.pool.Pool.place_of.Given as goal

-- it stands behind none but those that were seen
abbrev pub invariant-loop-choice : goal.invariant-loop-choice
invariant-loop-choice l = l.place ≤ l.choice-index
