use Rattle.vs_circ.specs.shipping.Ready.{IsReadyToRun}
use Rattle.vs_walk.specs.Walkers.{IsWalkerFor}
use Rattle.vs_walk.proofs.walker.Walker.reckon.Given as goal

abbrev pub invariant-loop-l : goal.invariant-loop-l
invariant-loop-l l = record {
  walker : IsWalkerFor l.case.instance.now l.self;
  ready : IsReadyToRun l.case.nets.now l.work;
}
