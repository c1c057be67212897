use Rattle.vs_circ.specs.shipping.Ready.{IsReadyToRun}
use Rattle.vs_penalty.specs.Seekers.{IsSeekerFor}
use Rattle.vs_penalty.proofs.seeking.Seeker.seek_anew.Given as goal

abbrev pub invariant-loop : goal.invariant-loop
invariant-loop l = record {
  seeker : IsSeekerFor l.case.instance.now l.self;
  ready : IsReadyToRun l.case.nets.now l.work;
}
