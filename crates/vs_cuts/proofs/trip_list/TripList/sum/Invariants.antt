use Rattle.std.proofs.Common.{◌*◌}
use Rattle.vs_cuts.specs.Numbers.{AreNear, IsNear}
use Rattle.vs_cuts.specs.declared.whole.TheConstants.{MOST_LACK, MOST_NUMBER}
use Rattle.vs_cuts.proofs.trip_list.TripList.sum.Given as goal

abbrev pub invariant-loop-trip : goal.invariant-loop-trip
invariant-loop-trip l = record {
  fits : IsNear (l.trip-index * MOST_NUMBER) l.sum;
  near : AreNear MOST_LACK l.numbers → IsNear (l.trip-index * MOST_LACK) l.sum;
}
