use Rattle.vs_cuts.specs.Numbers.{AreNear}
use Rattle.vs_cuts.specs.declared.whole.TheConstants.{MOST_LACK}
use Rattle.vs_cuts.proofs.trip_set.TripSet.copy_in.Given as goal

abbrev pub invariant-loop-w : goal.invariant-loop-w
invariant-loop-w l = AreNear MOST_LACK l.copies
