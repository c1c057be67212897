use Rattle.vs_circ.specs.shipping.Ready.{IsReadyToRun}
use Rattle.test_engine.proofs.circulations.first_run_miss_in.Given as goal

abbrev pub invariant-loop-multipliers : goal.invariant-loop-multipliers
invariant-loop-multipliers l = IsReadyToRun l.nets l.work
