use Rattle.std.proofs.Common.{◌≡◌, ◌∙◌, ℕ, ℤ, List, [], length, get_or, sym, subst, ap, arith}
use Rattle.std.proofs.lemmas.List.{with_items_is}
use Rattle.vs_layer.specs.Graph.{Graph}
use Rattle.vs_match.specs.LayerGraph.{kind_at}
use Rattle.vs_circ.specs.shipping.Prepared.{AreOfferedCosts, AreOfferedRooms}
use Rattle.vs_ship.specs.Leaving.{AreNone, IsLeftBy}
use Rattle.vs_circ.specs.PricedFlows.{must_units}
use Rattle.vs_circ.proofs.low.Stuck.{must_unit}
use Rattle.vs_circ.proofs.shipping.SmallArcs.{small_arcs}
use Rattle.vs_circ.proofs.shipping.Supplying.{is-supplied, must_on-≤}
use Rattle.vs_circ.proofs.supplying.supply.Goals as goal

pub offer_arcs-requires-clause-arcs : goal.offer_arcs-requires-clause-arcs
offer_arcs-requires-clause-arcs c =
    let layer = c.requires.of_layer in small_arcs layer.0 layer.2 layer.1.0 c.args.net.now layer.3

pub leave-requires-clause-few : goal.leave-requires-clause-few
leave-requires-clause-few c =
    let n = c.args.net.now in
    let must = c.args.must.now in
    λ k within.
    omega (
      arith,
      ap (λ (us : List ℕ). get_or us k 0) c.run.ensures,
      must_unit must n.kinds k,
      must_on-≤ must (kind_at n.kinds k),
    )

pub returns : goal.returns
returns c =
    let n = c.args.net.now in
    let must = c.args.must.now in
    let s = c.args.shipment.now in
    let layer = c.requires.of_layer in
    let sized = c.requires.sized in
    let cost =
    with_items_is s.costs.cost c.offer_arcs.new.cost (c.offer_arcs.auto.cost ∙ c.deref_mut-cost.ensures.len) in
    let room =
    with_items_is s.costs.room c.offer_arcs.new.room (c.offer_arcs.auto.room ∙ c.deref_mut-room.ensures.len) in
    let surplus =
    with_items_is s.surplus c.leave.new.surplus (c.leave.auto.surplus ∙ c.deref_mut-surplus.ensures.len) in
    let units =
    with_items_is s.flow.units c.empty.new.units
    (c.empty.auto.units ∙ c.run.auto.units ∙ c.deref_mut-units.ensures.len) in
    let prices = with_items_is s.prices c.clear.new.numbers (c.clear.auto.numbers ∙ c.deref_mut-prices.ensures.len) in
    let Left : Graph → Type 0 = λ g. IsLeftBy g c.run.new.units c.leave.new.surplus in
    let LeftBy : List ℕ → Type 0 = λ us. IsLeftBy n.graph us c.leave.new.surplus in
    let LeftAt : List ℤ → Type 0 = IsLeftBy n.graph (must_units n must) in
    let Empty : List ℕ → Type 0 = λ us. (k : ℕ) → get_or us k 0 ≡ 0 in
    is-supplied layer.0 layer.2 layer.1 n layer.3 must _
    (subst LeftAt (sym surplus) (subst LeftBy c.run.ensures (subst Left c.net.ensures.graph c.leave.ensures)))
    c.requires.nodes
    (record {
      units = ap length units ∙ c.empty.auto.units ∙ c.run.auto.units ∙ ap length c.deref_mut-units.ensures.value
          ∙ sized.units;
      cost = ap length cost ∙ c.offer_arcs.auto.cost ∙ ap length c.deref_mut-cost.ensures.value ∙ sized.cost;
      room = ap length room ∙ c.offer_arcs.auto.room ∙ ap length c.deref_mut-room.ensures.value ∙ sized.room;
      prices = ap length prices ∙ c.clear.auto.numbers ∙ ap length c.deref_mut-prices.ensures.value ∙ sized.prices;
      surplus = ap length surplus ∙ c.leave.auto.surplus ∙ ap length c.deref_mut-surplus.ensures.value ∙ sized.surplus;
    })
    (subst (AreOfferedCosts n []) (sym cost) c.offer_arcs.ensures.cost)
    (subst (AreOfferedRooms n []) (sym room) c.offer_arcs.ensures.room)
    (subst Empty (sym units) c.empty.ensures)
    (subst AreNone (sym prices) c.clear.ensures)
