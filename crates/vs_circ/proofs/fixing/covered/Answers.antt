use Rattle.std.proofs.Common.{ℤ, List, sym, subst, to_z, of_z, FitsSigned, rules, ◌∙◌}
use mir.Syntax.{w128}
use Rattle.std.proofs.lemmas.Int.{to_z-of_z}
use Rattle.vs_ship.specs.Gaps.{AreNear}
use Rattle.vs_circ.proofs.shipping.Fixing.{covered-fixed, near-moves}
use Rattle.vs_circ.proofs.shipping.SmallArcs.{small_arcs}
use Rattle.vs_circ.proofs.fixing.covered.Goals as goal

pub layer_prices-requires-clause-of_layer : goal.layer_prices-requires-clause-of_layer
layer_prices-requires-clause-of_layer c =
    let layer = c.requires.of_layer in (layer.0, layer.1.0, layer.2, layer.3, sym layer.4.each_trip)

pub layer_prices-requires-clause-prices : goal.layer_prices-requires-clause-prices
layer_prices-requires-clause-prices c =
    let layer = c.requires.of_layer in
    let s = c.args.shipment.now in
    let near = c.take_near.new.self.prices.items in
    let near_is : AreNear s.prices.items near =
    subst (λ (ps : List ℤ). AreNear ps near) c.deref.ensures.value c.take_near.ensures.near in
    near-moves c.args.net.now c.args.must.now s c.requires.supplied c.requires.drained c.in_ok-flow.flow
    c.in_ok-flow.ensures near near_is layer.0 layer.1 layer.2 layer.3 layer.4

pub cost_of-cost-requires-clause-arcs : goal.cost_of-cost-requires-clause-arcs
cost_of-cost-requires-clause-arcs c =
    let layer = c.requires.of_layer in small_arcs layer.0 layer.2 layer.1.0 c.args.net.now layer.3

pub returns : goal.returns
returns c =
    let n = c.args.net.now in
    let must = c.args.must.now in
    let s = c.args.shipment.now in
    let near = c.take_near.new.self.prices.items in
    let near_is : AreNear s.prices.items near =
    subst (λ (ps : List ℤ). AreNear ps near) c.deref.ensures.value c.take_near.ensures.near in
    let given = c.in_ok-prices.prices in
    let cost = c.cost_of-cost.result in
    let bits = c.cost_of-cost.type_inv in
    let fits : FitsSigned w128 cost = search (rules, bits) in
    covered-fixed n must s c.requires.supplied c.requires.drained c.in_ok-flow.flow c.in_ok-flow.ensures near near_is
    given (to_z w128 (of_z w128 cost))
    c.in_ok-prices.ensures.pays c.in_ok-prices.ensures.holding
    (to_z-of_z w128 cost fits ∙ c.cost_of-cost.ensures)
