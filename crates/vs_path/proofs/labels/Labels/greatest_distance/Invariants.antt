use Rattle.vs_path.specs.Labels.{lists_of}
use Rattle.vs_path.proofs.raised.RaisingUpTo.{IsGreatestUpTo}
use Rattle.vs_path.proofs.labels.Labels.greatest_distance.Given as goal

abbrev pub invariant-loop-v : goal.invariant-loop-v
invariant-loop-v l = IsGreatestUpTo (lists_of l.self) l.v l.least l.greatest
