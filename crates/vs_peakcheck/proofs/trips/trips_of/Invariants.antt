use Rattle.std.proofs.Common.{◌≡◌}
use Rattle.vs_peakcheck.proofs.problem.Gathering.{trips_below}
use Rattle.vs_peakcheck.proofs.trips.trips_of.Given as goal

-- of the trips below this one those are there that the layer may run
abbrev pub invariant-loop-i : goal.invariant-loop-i
invariant-loop-i l = l.trips.items ≡ trips_below l.instance l.l.0 l.i
