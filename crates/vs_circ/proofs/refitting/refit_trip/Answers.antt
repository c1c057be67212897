use Rattle.std.proofs.Common.{◌≡◌, ◌∙◌, ◌<◌, ℤ, length, subst, ap, arith, rules, w64, of_z, to_z, SFits}
use Rattle.std.proofs.lemmas.Int.{to_z-of_z}
use Rattle.vs_layer.specs.declared.arc.Arc.{Arc}
use Rattle.vs_layer.specs.Graph.{Graph, arc_of}
use Rattle.vs_match.specs.declared.arc_kind.ArcKind.TheVariants.{Trip}
use Rattle.vs_circ.specs.shipping.Prepared.{offered_cost, offered_room}
use Rattle.vs_circ.specs.shipping.Refitted.{IsRefittedAt}
use Rattle.vs_circ.proofs.shipping.Refitting.{refitted-more, refitted-none}
use Rattle.vs_circ.proofs.refitting.refit_trip.Goals as goal

pub returns-in_default : goal.returns-in_default
returns-in_default c =
    refitted-none c.args.net.now c.args.offers.now c.args.trip.0 c.args.shipment.now c.in_default.ensures
    c.requires.before

pub returns : goal.returns
returns c =
    let n = c.args.net.now in
    let offers = c.args.offers.now in
    let i = c.args.trip.0 in
    let k = c.in-Some.k in
    let is = c.in-Some.ensures in
    let old = c.args.shipment.now in
    let new = c.refit_arc.new.shipment in
    let cost = c.offered_cost-cost.result in
    let room = c.offered_room-room.result in
    let inside : k < length n.graph.arcs = omega (arith, is.0, c.net-graph.ensures.labelled.each_arc) in
    let arc : c.arc-arc.result ≡ arc_of n.graph k =
    c.arc-arc.ensures ∙ ap (λ (g : Graph). arc_of g k) c.net-graph.ensures.graph in
    let fits : SFits w64 cost = search rules in
    let same : to_z w64 (of_z w64 cost) ≡ cost = to_z-of_z w64 cost fits in
    let At : Graph → Type 0 = λ g. IsRefittedAt g k (to_z w64 (of_z w64 cost)) room old new in
    let AtCost : ℤ → Type 0 = λ z. IsRefittedAt n.graph k z room old new in
    refitted-more n offers i k is inside (λ j other. c.requires.arcs.one_arc i j k other is) cost room
    (c.offered_cost-cost.ensures ∙ ap (λ (a : Arc). offered_cost offers (Trip c.args.trip) a) arc)
    (c.offered_room-room.ensures ∙ ap (λ (a : Arc). offered_room offers (Trip c.args.trip) a) arc) old new
    c.requires.before
    (subst AtCost same (subst At c.net-graph.ensures.graph c.refit_arc.ensures))
