use Rattle.vs_circ.proofs.shipping.Readying.{IsReadySoFar}
use Rattle.vs_circ.proofs.running.begin_runs.Given as goal

-- the nets so far can be run
abbrev pub invariant-loop-place : goal.invariant-loop-place
invariant-loop-place l = IsReadySoFar l.nets l.work l.place
