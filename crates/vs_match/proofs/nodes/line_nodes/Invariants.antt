use Rattle.std.proofs.Common.{[], ◌≤◌, length}
use Rattle.vs_match.specs.Adds.{Adds}
use Rattle.vs_match.proofs.events.Adding.{Upto}
use Rattle.vs_match.proofs.events.StopNodeLists.{OfLine}
use Rattle.vs_match.proofs.nodes.line_nodes.Given as goal

-- the nodes of the points so far
abbrev pub invariant-loop-k : goal.invariant-loop-k
invariant-loop-k l = record {
  adds : Adds (Upto (OfLine l.points l.depot) l.k) [] l.line.items;
  few : length l.line.items ≤ l.k;
}
