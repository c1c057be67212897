use Rattle.std.proofs.Common.{◌≡◌}
use Rattle.vs_cuts.proofs.trip_set.TripSet.all.Given as goal

abbrev pub invariant-loop-i : goal.invariant-loop-i
invariant-loop-i l = l.all.trips ≡ l.fn.trips
