use Rattle.std.proofs.Common.{[], ◌≤◌, length}
use Rattle.vs_match.specs.Adds.{Adds}
use Rattle.vs_match.proofs.events.Adding.{Upto}
use Rattle.vs_match.proofs.events.StopNodeLists.{OfTripEnd}
use Rattle.vs_match.proofs.nodes.stop_nodes_of.Given as goal

-- the nodes of the trips so far
abbrev pub invariant-loop-i : goal.invariant-loop-i
invariant-loop-i l = record {
  adds : Adds (Upto (OfTripEnd l.end l.instance l.l.0 l.points) l.i) [] l.stop_nodes.items;
  few : length l.stop_nodes.items ≤ l.i;
}
