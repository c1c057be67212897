use Rattle.std.proofs.Common.{◌≡◌, drop}
use Rattle.vs_instance.specs.Misfits.{first_misfit, trip_misfits, trips_misfits}
use Rattle.vs_instance.proofs.misfits.Firsts.{first_from}
use Rattle.vs_instance.proofs.ranges.trips_misfit.Given as goal

-- those from here on have the first misfit of all
abbrev pub invariant-loop-i : goal.invariant-loop-i
invariant-loop-i l = first_from trip_misfits l.i (drop l.i l.trips) ≡ first_misfit (trips_misfits l.trips)
