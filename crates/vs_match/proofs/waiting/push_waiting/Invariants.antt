use Rattle.std.proofs.Common.{◌+◌, ◌≤◌, length}
use Rattle.vs_match.specs.Adds.{Adds}
use Rattle.vs_match.proofs.events.Adding.{Upto}
use Rattle.vs_match.proofs.matches.WaitedAt.{OfNeighbours}
use Rattle.vs_match.proofs.waiting.push_waiting.Given as goal

-- the waiting up to the nodes so far
abbrev pub invariant-loop-k : goal.invariant-loop-k
invariant-loop-k l = record {
  adds : Adds (Upto (OfNeighbours l.instance l.l.0 l.nodes.all.items) l.k) l.initial.arcs.items l.arcs.items;
  few : length l.arcs.items + 1 ≤ length l.initial.arcs.items + l.k;
  within : l.k ≤ length l.nodes.all.items + 1;
}
