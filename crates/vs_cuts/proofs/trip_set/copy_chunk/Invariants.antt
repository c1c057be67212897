use Rattle.vs_cuts.specs.Numbers.{AreNear}
use Rattle.vs_cuts.specs.declared.whole.TheConstants.{MOST_LACK}
use Rattle.vs_cuts.proofs.trip_set.copy_chunk.Given as goal

abbrev pub invariant-loop-b : goal.invariant-loop-b
invariant-loop-b l = AreNear MOST_LACK l.copies
