use Rattle.vs_node.proofs.sets.Cheapest.{IsSoFar}
use Rattle.vs_node.proofs.choosing.cheapest_layer.Given as goal

abbrev pub invariant-loop-k : goal.invariant-loop-k
invariant-loop-k l = IsSoFar l.instance l.set l.table l.i.0 l.least l.k l.cheapest.0
