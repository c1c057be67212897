use Rattle.vs_path.specs.Labels.{lists_of}
use Rattle.vs_path.proofs.raised.RaisingUpTo.{AreRaisedUpTo}
use Rattle.vs_path.proofs.labels.Labels.raise_prices.Given as goal

abbrev pub invariant-loop-v : goal.invariant-loop-v
invariant-loop-v l = AreRaisedUpTo (lists_of l.self) l.rise l.v l.fn.prices l.prices
