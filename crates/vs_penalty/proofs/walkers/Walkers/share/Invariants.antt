use Rattle.std.proofs.Common.{◌≡◌, length}
use Rattle.vs_penalty.proofs.walkers.Walkers.share.Given as goal

abbrev pub invariant-loop-walk : goal.invariant-loop-walk
invariant-loop-walk l = l.pool.trips ≡ length l.case.instance.now.trips
