use Rattle.vs_path.specs.Labels.{lists_of}
use Rattle.vs_path.proofs.found.Moving.{AreMovedUpTo}
use Rattle.vs_path.proofs.labels.Labels.lower_prices.Given as goal

-- the prices of the nodes that were settled first are moved
abbrev pub invariant-loop-node : goal.invariant-loop-node
invariant-loop-node l = AreMovedUpTo (lists_of l.self) l.farthest.distance l.node-index l.fn.prices l.prices
