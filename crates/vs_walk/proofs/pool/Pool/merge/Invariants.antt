use Rattle.std.proofs.Common.{◌≡◌}
use Rattle.vs_walk.proofs.pool.Pool.merge.Given as goal

abbrev pub invariant-loop-place : goal.invariant-loop-place
invariant-loop-place l = l.self.trips ≡ l.fn.self.trips
