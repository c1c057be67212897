use Rattle.std.proofs.Common.{◌≤◌}
use Rattle.vs_walk.proofs.scope.count_free.Given as goal

-- no more have several layers than were seen
abbrev pub invariant-loop-set : goal.invariant-loop-set
invariant-loop-set l = l.free ≤ l.set-index
