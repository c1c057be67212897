use Rattle.std.proofs.Common.{◌≡◌}
use Rattle.vs_cuts.proofs.trip_set.TripSet.mark.Given as goal

abbrev pub invariant-loop-w : goal.invariant-loop-w
invariant-loop-w l = l.self.trips ≡ l.fn.self.trips
