use Rattle.std.proofs.Common.{◌≡◌, length}
use Rattle.vs_cuts.specs.Numbers.{AreNear}
use Rattle.vs_cuts.specs.declared.whole.TheConstants.{MOST_LACK}
use Rattle.vs_cuts.proofs.trip_list.TripList.lower.Given as goal

abbrev pub invariant-loop-trip : goal.invariant-loop-trip
invariant-loop-trip l = record {
  near : AreNear MOST_LACK l.lacks;
  each : length l.lacks ≡ length l.fn.lacks;
}
