use Rattle.vs_circ.specs.shipping.Ready.{IsReadyToRun}
use Rattle.vs_walk.specs.Walkers.{IsWalkerFor}
use Rattle.vs_walk.proofs.walker.Walker.restart_all.Given as goal

abbrev pub invariant-loop : goal.invariant-loop
invariant-loop g l = record {
  walker : IsWalkerFor l.case.instance.now l.self;
  ready : IsReadyToRun l.case.nets.now l.work;
}
