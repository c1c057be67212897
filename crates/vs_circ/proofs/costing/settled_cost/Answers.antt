use Rattle.std.proofs.Common.{◌≡◌, ◌-◌, ◌∙◌, ◌≤◌, ◌+ℤ◌, ℕ, length, ap, sym, arith}
use Rattle.std.proofs.lemmas.Int.{ints}
use Rattle.vs_layer.specs.Graph.{Graph}
use Rattle.vs_circ.specs.PricedFlows.{last_arc}
use Rattle.vs_circ.specs.shipping.Costing.{units_pay}
use Rattle.vs_circ.proofs.shipping.Costing.{cost-of_all, paid_before, paid-more}
use Rattle.vs_circ.proofs.shipping.SmallArcs.{small_arcs}
use Rattle.vs_circ.proofs.costing.settled_cost.Goals as goal

pub arc_pays-cost-requires-clause-arcs : goal.arc_pays-cost-requires-clause-arcs
arc_pays-cost-requires-clause-arcs c =
    let layer = c.requires.of_layer in small_arcs layer.0 layer.2 layer.1.0 c.args.net.now layer.3

pub trip_pays-cost-requires-clause-arcs : goal.trip_pays-cost-requires-clause-arcs
trip_pays-cost-requires-clause-arcs c =
    let layer = c.requires.of_layer in small_arcs layer.0 layer.2 layer.1.0 c.args.net.now layer.3

pub loop-i-init : goal.loop-i-init
loop-i-init c =
    let n = c.args.net.now in
    let s = c.args.shipment.now in
    let here = c.arc_pays-cost.ensures.within in
    let last : c.arcs-last.result - 1 ≡ last_arc n =
    omega (arith, ap (λ (g : Graph). length g.arcs) c.net.ensures.graph, c.arcs-last.ensures.count) in
    let paid = ap (λ (k : ℕ). units_pay n s.flow.units.items s.prices.items k) last in
    record {
      cost = omega (arith, ints, c.arc_pays-cost.ensures.value, paid, here.low, here.high);
      within = record {
        low = omega (arith, ints, here.low, here.high);
        high = omega (arith, ints, here.low, here.high);
      };
    }

pub loop-i-preserved : goal.loop-i-preserved
loop-i-preserved c =
    let layer = c.requires.of_layer in
    let s = c.args.shipment.now in
    let i = c.loop-i.i in
    let few : length c.args.offers.now ≤ 10000 = omega (arith, layer.4.each_trip, layer.2.few_trips) in
    let inside = c.loop-i-test.true in
    let before = c.loop-i.invariant.cost in
    let now = c.loop-i.invariant.within in
    let here = c.trip_pays-cost.ensures.within in
    let more = paid-more c.args.net.now s.flow.units.items s.prices.items i c.trip_pays-cost.result layer.3.one_arc
    c.trip_pays-cost.ensures.value in
    record {
      cost = omega (arith, ints, few, inside, before, now.low, now.high, here.low, here.high, more);
      within = record {
        low = omega (arith, ints, few, inside, now.low, now.high, here.low, here.high);
        high = omega (arith, ints, few, inside, now.low, now.high, here.low, here.high);
      };
    }

pub returns : goal.returns
returns c =
    let layer = c.requires.of_layer in
    let n = c.args.net.now in
    let units = c.args.shipment.now.flow.units.items in
    let prices = c.args.shipment.now.prices.items in
    let all : c.loop-i.i ≡ length layer.0.trips =
    omega (arith, c.loop-i-test.false, c.loop-i.auto.i-end, layer.4.each_trip) in
    c.loop-i.invariant.cost
    ∙ ap (λ (t : ℕ). units_pay n units prices (last_arc n) +ℤ paid_before n units prices t) all
    ∙ sym (cost-of_all n units prices layer.0 layer.1 layer.3 c.requires.settled.flow)
