use Rattle.std.proofs.Common.{◌*◌}
use Rattle.vs_cuts.specs.Numbers.{IsNear}
use Rattle.vs_cuts.specs.declared.whole.TheConstants.{MOST_NUMBER}
use Rattle.vs_cuts.proofs.trip_list.TripList.sum_among.Given as goal

abbrev pub invariant-loop-trip : goal.invariant-loop-trip
invariant-loop-trip l = IsNear (l.trip-index * MOST_NUMBER) l.sum
