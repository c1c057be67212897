use Rattle.vs_multi.specs.Multipliers.{AreMultipliers}
use Rattle.vs_penalty.proofs.paying.pay_at.Given as goal

abbrev pub invariant-loop-i : goal.invariant-loop-i
invariant-loop-i l = AreMultipliers l.instance l.multipliers
