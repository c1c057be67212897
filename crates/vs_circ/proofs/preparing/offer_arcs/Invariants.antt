use Rattle.std.proofs.Common.{◌≡◌, ℕ, ◌<◌, get_or, pos}
use Rattle.vs_layer.specs.Graph.{arc_of}
use Rattle.vs_match.specs.LayerGraph.{kind_of}
use Rattle.vs_circ.specs.shipping.Prepared.{offered_cost, offered_room}
use Rattle.vs_circ.proofs.preparing.offer_arcs.Given as goal

-- those of the arcs so far are set
abbrev pub invariant-loop-k : goal.invariant-loop-k
invariant-loop-k l = record {
  cost : (j : ℕ) → j < l.k → get_or l.cost j (pos 0) ≡ offered_cost l.offers (kind_of l.net j) (arc_of l.net.graph j);
  room : (j : ℕ) → j < l.k → get_or l.room j 0 ≡ offered_room l.offers (kind_of l.net j) (arc_of l.net.graph j);
}
