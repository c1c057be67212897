use Rattle.vs_multi.specs.Multipliers.{AreMultipliers}
use Rattle.vs_penalty.proofs.reasons.one_trip.Given as goal

abbrev pub invariant-loop-i : goal.invariant-loop-i
invariant-loop-i g l = AreMultipliers l.case.instance.now l.multipliers
