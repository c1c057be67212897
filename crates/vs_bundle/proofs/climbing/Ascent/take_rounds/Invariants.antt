use Rattle.vs_circ.specs.shipping.Ready.{IsReadyToRun}
use Rattle.vs_multi.specs.Multipliers.{AreMultipliers}
use Rattle.vs_bundle.specs.Climbs.{IsAscentFor}
use Rattle.vs_bundle.proofs.climbing.Ascent.take_rounds.Given as goal

abbrev pub invariant-loop-r : goal.invariant-loop-r
invariant-loop-r g l = record {
  multipliers : AreMultipliers l.case.instance.now l.multipliers;
  ascent : IsAscentFor l.case.instance.now l.self;
  ready : IsReadyToRun l.case.nets.now l.work;
}
