use Rattle.vs_circ.specs.shipping.Ready.{IsReadyToRun}
use Rattle.vs_walk.specs.Penalties.{ArePenalties}
use Rattle.vs_walk.proofs.penalties.Penalties.pass.Given as goal

abbrev pub invariant-loop-k : goal.invariant-loop-k
invariant-loop-k g l = record {
  penalties : ArePenalties l.case.instance.now l.self;
  ready : IsReadyToRun l.case.nets.now l.work;
}
