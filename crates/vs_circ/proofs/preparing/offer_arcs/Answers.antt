use Rattle.std.proofs.Common.{◌≡◌, ◌∙◌, ◌<◌, ℕ, ℤ, length, pos, ap, arith, rules, w64, SFits}
use Rattle.std.proofs.lemmas.Int.{to_z-of_z}
use Rattle.vs_layer.specs.declared.arc.Arc.{Arc}
use Rattle.vs_layer.specs.Graph.{Graph, arc_of}
use Rattle.vs_match.specs.declared.arc_kind.ArcKind.{ArcKind}
use Rattle.vs_match.specs.LayerGraph.{kind_of}
use Rattle.vs_circ.specs.shipping.Prepared.{offered_cost, offered_room}
use Rattle.vs_types.proofs.CallerLemmas.{place_filled}
use Rattle.vs_circ.proofs.preparing.offer_arcs.Goals as goal

pub loop-k-preserved : goal.loop-k-preserved
loop-k-preserved c =
    let n = c.args.net.now in
    let offers = c.args.offers.now in
    let k = c.loop-k.k in
    let inside : k < length n.graph.arcs =
    omega (
      arith,
      c.loop-k-test.true,
      c.arcs-k-end.ensures.count,
      ap (λ (g : Graph). length g.arcs) c.net-graph.ensures.graph,
    ) in
    let arc : c.arc-arc.result ≡ arc_of n.graph k =
    c.arc-arc.ensures ∙ ap (λ (g : Graph). arc_of g k) c.net-graph.ensures.graph in
    let fits : SFits w64 c.offered_cost.result = search rules in
    let word = to_z-of_z w64 c.offered_cost.result fits in
    record {
      cost = place_filled (pos 0) (λ (j : ℕ) (z : ℤ). z ≡ offered_cost offers (kind_of n j) (arc_of n.graph j))
          c.loop-k.cost k _ (omega (arith, inside, c.requires.cost_size)) c.loop-k.invariant.cost
          (word ∙ c.offered_cost.ensures
          ∙ ap (λ (kind : ArcKind). offered_cost offers kind c.arc-arc.result) c.kind-kind.ensures
          ∙ ap (λ (a : Arc). offered_cost offers (kind_of n k) a) arc);
      room = place_filled 0 (λ (j r : ℕ). r ≡ offered_room offers (kind_of n j) (arc_of n.graph j)) c.loop-k.room k _
          (omega (arith, inside, c.requires.room_size)) c.loop-k.invariant.room
          (c.offered_room.ensures
          ∙ ap (λ (kind : ArcKind). offered_room offers kind c.arc-arc.result) c.kind-kind.ensures
          ∙ ap (λ (a : Arc). offered_room offers (kind_of n k) a) arc);
    }
