use Rattle.vs_multi.specs.Rounds.{IsRoundFor}
use Rattle.vs_multi.proofs.HaveRun.{HaveRun}
use Rattle.vs_multi.proofs.round.Round.run_unless_over.Given as goal

-- the layers below this one have run
abbrev pub invariant-loop-l : goal.invariant-loop-l
invariant-loop-l g l = record {
  round : IsRoundFor l.case.instance.now l.self;
  run : HaveRun l.case.instance.now l.case.nets.now l.case.sets.now l.multipliers l.l l.self;
}
