use Rattle.vs_penalty.specs.Seekers.{AreWalks}
use Rattle.vs_penalty.proofs.walkers.walk_sharing.Given as goal

abbrev pub invariant-loop-k : goal.invariant-loop-k
invariant-loop-k g l = AreWalks l.case.instance.now l.walks
