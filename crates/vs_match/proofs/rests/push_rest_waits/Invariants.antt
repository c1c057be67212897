use Rattle.std.proofs.Common.{◌+◌, ◌≤◌, length}
use Rattle.vs_match.specs.Adds.{Adds}
use Rattle.vs_match.proofs.events.Adding.{Upto}
use Rattle.vs_match.proofs.matches.RestedAt.{OfRestWait}
use Rattle.vs_match.proofs.rests.push_rest_waits.Given as goal

-- the rests up to the nodes so far
abbrev pub invariant-loop-k : goal.invariant-loop-k
invariant-loop-k l = record {
  adds : Adds (Upto (OfRestWait l.instance l.l.0 l.nodes.line.items) l.k) l.initial.arcs.items l.arcs.items;
  few : length l.arcs.items + 1 ≤ length l.initial.arcs.items + l.k;
  within : l.k ≤ length l.nodes.line.items + 1;
}
