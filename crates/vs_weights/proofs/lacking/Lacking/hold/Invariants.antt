use Rattle.std.proofs.Common.{◌≡◌}
use Rattle.vs_weights.proofs.lacking.Lacking.hold.Given as goal

abbrev pub invariant-loop-i : goal.invariant-loop-i
invariant-loop-i l = l.self.free.trips ≡ l.fn.self.free.trips
