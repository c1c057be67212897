use Rattle.vs_circ.specs.shipping.Ready.{IsReadyToRun}
use Rattle.vs_penalty.specs.Seekers.{IsSeekerFor}
use Rattle.vs_penalty.proofs.seeking.Seeker.seek.Given as goal

abbrev pub invariant-loop-k : goal.invariant-loop-k
invariant-loop-k g l = record {
  seeker : IsSeekerFor l.case.instance.now l.self;
  ready : IsReadyToRun l.case.nets.now l.work;
}
