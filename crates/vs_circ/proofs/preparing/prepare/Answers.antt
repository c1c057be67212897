use Rattle.std.proofs.Common.{◌∙◌, ℕ, ℤ, List, length, sym, subst, ap}
use Rattle.std.proofs.lemmas.List.{with_items_is}
use Rattle.std.specs.Vec.{with_items}
use Rattle.vs_layer.specs.Graph.{Graph}
use Rattle.vs_path.specs.Residual.{AllWithin}
use Rattle.vs_ship.specs.declared.shipment.TheConstants.{MAX_FIRST_PRICE}
use Rattle.vs_circ.specs.shipping.Prepared.{AreOfferedCosts, AreOfferedRooms}
use Rattle.vs_ship.specs.Suiting.{AllSuit}
use Rattle.vs_ship.specs.Leaving.{IsLeftBy}
use Rattle.vs_circ.proofs.shipping.Preparing.{suit-can}
use Rattle.vs_circ.proofs.preparing.prepare.Goals as goal

pub returns-clause-can : goal.returns-clause-can
returns-clause-can c =
    let n = c.args.net.now in
    let s = c.args.shipment.now in
    let sized = c.requires.sized in
    let cost = with_items_is s.costs.cost c.offer_arcs.new.cost
    (c.offer_arcs.auto.cost ∙ c.deref_mut-cost.ensures.len) in
    let room =
    with_items_is s.costs.room c.offer_arcs.new.room (c.offer_arcs.auto.room ∙ c.deref_mut-room.ensures.len) in
    let prices = with_items_is s.prices c.fit.new.prices (c.fit.auto.prices ∙ c.deref_mut-prices.ensures.len) in
    let units = with_items_is s.flow.units c.fit.new.units (c.fit.auto.units ∙ c.deref_mut-units.ensures.len) in
    let surplus = with_items_is s.surplus c.fit.new.surplus
    (c.fit.auto.surplus ∙ c.deref_mut-surplus.ensures.len) in
    let cost_now : List ℤ = (with_items s.costs.cost c.offer_arcs.new.cost).items in
    let room_now : List ℕ = (with_items s.costs.room c.offer_arcs.new.room).items in
    let prices_now : List ℤ = (with_items s.prices c.fit.new.prices).items in
    let units_now : List ℕ = (with_items s.flow.units c.fit.new.units).items in
    let Suit : Graph → Type 0 = λ g. AllSuit g cost_now room_now c.fit.new.prices c.fit.new.units in
    let SuitAt : List ℤ → Type 0 = λ ps. AllSuit n.graph cost_now room_now ps c.fit.new.units in
    let SuitTo : List ℕ → Type 0 = λ us. AllSuit n.graph cost_now room_now prices_now us in
    let Left : Graph → Type 0 = λ g. IsLeftBy g c.fit.new.units c.fit.new.surplus in
    let LeftBy : List ℕ → Type 0 = λ us. IsLeftBy n.graph us c.fit.new.surplus in
    let LeftAt : List ℤ → Type 0 = IsLeftBy n.graph units_now in
    suit-can n c.args.offers.now _ c.requires.arcs c.requires.nodes c.requires.steps
    (record {
      units = ap length units ∙ c.fit.auto.units ∙ ap length c.deref_mut-units.ensures.value ∙ sized.units;
      cost = ap length cost ∙ c.offer_arcs.auto.cost ∙ ap length c.deref_mut-cost.ensures.value ∙ sized.cost;
      room = ap length room ∙ c.offer_arcs.auto.room ∙ ap length c.deref_mut-room.ensures.value ∙ sized.room;
      prices = ap length prices ∙ c.fit.auto.prices ∙ ap length c.deref_mut-prices.ensures.value ∙ sized.prices;
      surplus = ap length surplus ∙ c.fit.auto.surplus ∙ ap length c.deref_mut-surplus.ensures.value ∙ sized.surplus;
    })
    (subst (AreOfferedCosts n c.args.offers.now) (sym cost) c.offer_arcs.ensures.cost)
    (subst (AreOfferedRooms n c.args.offers.now) (sym room) c.offer_arcs.ensures.room)
    (subst (AllWithin MAX_FIRST_PRICE) (sym prices) c.fit.ensures.first)
    (subst SuitTo (sym units) (subst SuitAt (sym prices) (subst Suit c.net-arcs.ensures.graph c.fit.ensures.suit)))
    (subst LeftAt (sym surplus) (subst LeftBy (sym units)
    (subst Left c.net-arcs.ensures.graph c.fit.ensures.left)))
