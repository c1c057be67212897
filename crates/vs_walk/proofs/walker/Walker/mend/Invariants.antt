use Rattle.vs_circ.specs.shipping.Ready.{IsReadyToRun}
use Rattle.vs_walk.specs.Walkers.{IsWalkerFor}
use Rattle.vs_walk.proofs.walker.Walker.mend.Given as goal

abbrev pub invariant-loop-k : goal.invariant-loop-k
invariant-loop-k g l = record {
  walker : IsWalkerFor l.case.instance.now l.self;
  ready : IsReadyToRun l.case.nets.now l.work;
}
