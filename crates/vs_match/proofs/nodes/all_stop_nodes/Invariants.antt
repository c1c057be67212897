use Rattle.std.proofs.Common.{[], ◌≤◌, length}
use Rattle.vs_match.specs.Adds.{Adds}
use Rattle.vs_match.proofs.events.Adding.{Upto}
use Rattle.vs_match.proofs.events.StopNodeLists.{OfPlace}
use Rattle.vs_match.proofs.nodes.all_stop_nodes.Given as goal

-- the nodes of the points so far
abbrev pub invariant-loop-k : goal.invariant-loop-k
invariant-loop-k l = record {
  adds : Adds (Upto (OfPlace l.points) l.k) [] l.stop_nodes.items;
  few : length l.stop_nodes.items ≤ l.k;
}
