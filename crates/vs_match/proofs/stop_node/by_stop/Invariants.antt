use Rattle.std.proofs.Common.{map}
use Rattle.vs_match.specs.StopNodes.{AreByStop}
use Rattle.vs_match.proofs.stop_node.by_stop.Given as goal

-- the stops so far
abbrev pub invariant-loop-stop : goal.invariant-loop-stop
invariant-loop-stop l = AreByStop l.stop l.stop_nodes (map (λ g. g.now) l.groups.items)
