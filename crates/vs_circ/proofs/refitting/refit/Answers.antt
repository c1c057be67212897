use Rattle.std.proofs.Common.{◌∙◌, ◌<◌, ℕ, length, sym, subst, ap, arith}
use Rattle.std.proofs.lemmas.List.{with_items_is}
use Rattle.vs_match.specs.LayerGraph.{IsArcOfTrip}
use Rattle.vs_ship.specs.Leaving.{AreNone}
use Rattle.vs_circ.proofs.low.LawfulArcs.{trip_arc}
use Rattle.vs_circ.proofs.shipping.Preparing.{suit-can}
use Rattle.vs_circ.proofs.shipping.Refitting.{refitted-costs, refitted-first, refitted-rooms, refitted-suit}
use Rattle.vs_circ.proofs.shipping.SmallArcs.{small_arcs}
use Rattle.vs_circ.proofs.shipping.SmallSteps.{small_steps}
use Rattle.vs_circ.proofs.refitting.refit.Goals as goal

pub loop-i-init : goal.loop-i-init
loop-i-init c =
    let n = c.args.net.now in
    let s = c.args.shipment.now in
    let sized = c.requires.sized in
    let surplus =
    with_items_is s.surplus c.clear.new.numbers (c.clear.auto.numbers ∙ c.deref_mut-surplus.ensures.len) in
    refitted-first n c.args.offers.now c.requires.of_layer.3.labelled _
    (record {
      units = sized.units;
      cost = sized.cost;
      room = sized.room;
      prices = sized.prices;
      surplus = ap length surplus ∙ c.clear.auto.numbers ∙ ap length c.deref_mut-surplus.ensures.value ∙ sized.surplus;
    })
    c.requires.prices c.requires.settled c.requires.costs (subst AreNone (sym surplus) c.clear.ensures)

pub refit_trip-requires-clause-arcs : goal.refit_trip-requires-clause-arcs
refit_trip-requires-clause-arcs c =
    let layer = c.requires.of_layer in small_arcs layer.0 layer.2 layer.1.0 c.args.net.now layer.3

pub returns-clause-can : goal.returns-clause-can
returns-clause-can c =
    let n = c.args.net.now in
    let offers = c.args.offers.now in
    let layer = c.requires.of_layer in
    let s = c.loop-i.shipment in
    let are = c.loop-i.invariant in
    let all : (i k : ℕ) → IsArcOfTrip n.kinds i k → i < c.loop-i.i =
    λ i k arc. omega (
      arith,
      (trip_arc layer.0 layer.1 n layer.3 i k arc).may_run.0,
      layer.4.each_trip,
      c.loop-i-test.false,
    ) in
    suit-can n offers s (small_arcs layer.0 layer.2 layer.1.0 n layer.3) c.requires.nodes
    (small_steps layer.0 layer.2 layer.1 n layer.3 offers layer.4) are.sized
    (refitted-costs n offers c.loop-i.i s all are) (refitted-rooms n offers c.loop-i.i s all are) are.prices
    (refitted-suit n offers c.loop-i.i s all are) are.left
