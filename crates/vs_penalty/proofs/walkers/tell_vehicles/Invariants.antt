use Rattle.vs_penalty.specs.Seekers.{AreWalks}
use Rattle.vs_penalty.proofs.walkers.tell_vehicles.Given as goal

abbrev pub invariant-loop-k : goal.invariant-loop-k
invariant-loop-k l = AreWalks l.case.instance.now l.walks
