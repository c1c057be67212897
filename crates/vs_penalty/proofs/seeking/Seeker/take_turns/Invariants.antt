use Rattle.vs_bundle.specs.Climbs.{IsAscentFor}
use Rattle.vs_multi.specs.Multipliers.{AreMultipliers}
use Rattle.vs_penalty.specs.Seekers.{AreWalkers, IsSeekerFor}
use Rattle.vs_penalty.proofs.seeking.Seeker.take_turns.Given as goal

abbrev pub invariant-loop-turn : goal.invariant-loop-turn
invariant-loop-turn g l = record {
  multipliers : AreMultipliers l.case.instance.now l.multipliers;
  seeker : IsSeekerFor l.case.instance.now l.self;
  ascent : IsAscentFor l.case.instance.now l.ascent;
  walkers : AreWalkers l.case.instance.now l.walkers;
}
