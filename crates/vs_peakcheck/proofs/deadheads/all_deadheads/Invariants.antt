use Rattle.vs_peakcheck.specs.Listed.{AreDeadheadsBelow}
use Rattle.vs_peakcheck.proofs.deadheads.all_deadheads.Given as goal

-- the deadheads of the pairs so far
abbrev pub invariant-loop-place : goal.invariant-loop-place
invariant-loop-place l = AreDeadheadsBelow l.instance l.place l.deadheads.items
