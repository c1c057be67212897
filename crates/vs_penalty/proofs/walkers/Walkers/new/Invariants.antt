use Rattle.vs_penalty.specs.Seekers.{AreWalks}
use Rattle.vs_penalty.proofs.walkers.Walkers.new.Given as goal

abbrev pub invariant-loop-number : goal.invariant-loop-number
invariant-loop-number l = AreWalks l.case.instance.now l.walks.items
