use Rattle.std.proofs.Common.{◌≡◌, ◌∙◌, ◌<◌, ◌<ℤ◌, pos, length, ℕ, List, ℤ, arith, refl, sym, ap, subst}
use Rattle.std.proofs.lemmas.List.{with_items_is}
use Rattle.vs_queue.specs.declared.step.Step.{Step}
use Rattle.vs_path.specs.Residual.{ResidualNet, IsPath, arc_no, price_at, step_in}
use Rattle.vs_path.specs.Loads.{AreLoads}
use Rattle.vs_path.specs.Labels.{Lacks}
use Rattle.vs_path.specs.Search.{IsCut}
use Rattle.vs_ship.specs.Shipments.{CanTakeAll, IsSentAlong, GainAlong, residual_of, after_unit}
use Rattle.vs_ship.proofs.shipping.Listing.{loads-sent}
use Rattle.vs_ship.proofs.shipping.Paths.{leads-open}
use Rattle.vs_ship.proofs.shipping.Sending.{can-take, goal-as, sent-ships, unit-source}
use Rattle.vs_ship.proofs.shipping.Shipping.{ships-same}
use Rattle.vs_ship.proofs.draining.send.Goals as goal

pub returns-in_default-clause-ships : goal.returns-in_default-clause-ships
returns-in_default-clause-ships c =
    let stuck = c.in_default.ensures in
    let old = c.args.shipment.now in
    let sized : length c.find-found.new.prices ≡ old.prices.len =
    c.find-found.auto.prices ∙ c.deref_mut-prices.ensures.len in
    ships-same c.args.net.now old _ c.requires.can
    (with_items_is old.prices c.find-found.new.prices sized ∙ stuck.else_same ∙ c.deref_mut-prices.ensures.value)

pub returns-in_default-clause-sent : goal.returns-in_default-clause-sent
returns-in_default-clause-sent c =
    let old = c.args.shipment.now in
    let nodes = c.find-found.new.self.reached in
    let P : ResidualNet → Type 0 = λ r. IsCut r old.surplus.items c.args.source nodes in
    let Q : List ℤ → Type 0 = λ surplus. IsCut c.loaded-residual.result surplus c.args.source nodes in
    let same = c.loaded-residual.ensures in
    record { left = c.requires.some; cut = subst P same (subst Q c.deref.ensures.value c.in_default.ensures.found) }

pub carry-requires : goal.carry-requires
carry-requires c =
    let g = c.args.net.now in
    let old = c.args.shipment.now in
    let same = c.loaded-residual.ensures in
    let P : ResidualNet → Type 0 = λ r. IsPath r c.args.source c.find-found.new.self.path c.in-Some.goal in
    let Q : List Step → Type 0 = λ path. CanTakeAll old.flow.units.items path in
    let R : List ℕ → Type 0 = λ units. CanTakeAll units c.path-path.result.now in
    let path = subst P same c.in-Some.ensures.found.is_path in
    subst R (sym c.deref_mut-units.ensures.value)
    (subst Q (sym c.path-path.ensures)
    (can-take g old c.args.source c.in-Some.goal c.find-found.new.self.path c.requires.can path))

pub move_unit-requires : goal.move_unit-requires
move_unit-requires c =
    let g = c.args.net.now in
    let old = c.args.shipment.now in
    let same = c.loaded-residual.ensures in
    let nodes = ap (λ (r : ResidualNet). r.graph.nodes) same in
    let size = ap length c.deref_mut-surplus.ensures.value in
    let searched = c.deref.ensures.value ∙ sym c.deref_mut-surplus.ensures.value in
    let Some : List ℤ → Type 0 = λ xs. pos 0 <ℤ price_at xs c.args.source in
    let Lacking : List ℤ → Type 0 = λ xs. Lacks xs c.in-Some.goal in
    record {
      source = omega (arith, size, c.requires.source, c.requires.can.sized.surplus);
      goal = omega (arith, size, c.in-Some.ensures.else_same, nodes, c.requires.can.sized.surplus);
      some = subst Some (sym c.deref_mut-surplus.ensures.value) c.requires.some;
      lacks = subst Lacking searched c.in-Some.ensures.found.lacks;
    }

pub returns-clause-ships : goal.returns-clause-ships
returns-clause-ships c =
    let g = c.args.net.now in
    let old = c.args.shipment.now in
    let path = c.path-path.result.now in
    let same = c.loaded-residual.ensures in
    let nodes = ap (λ (r : ResidualNet). r.graph.nodes) same in
    let prices =
    with_items_is old.prices c.find-found.new.prices (c.find-found.auto.prices ∙ c.deref_mut-prices.ensures.len) in
    let units = with_items_is old.flow.units c.carry.new.units (c.carry.auto.units ∙ c.deref_mut-units.ensures.len) in
    let surplus =
    with_items_is old.surplus c.move_unit.new.surplus (c.move_unit.auto.surplus ∙ c.deref_mut-surplus.ensures.len) in
    let found =
    goal-as c.loaded-residual.result (residual_of g old) c.deref.result.now old.surplus.items
    c.deref_mut-prices.result.now old.prices.items c.find-found.new.prices _ c.find-found.new.self.path path
    c.args.source c.in-Some.goal same c.deref.ensures.value c.deref_mut-prices.ensures.value (sym prices)
    (sym c.path-path.ensures)
    c.in-Some.ensures.found in
    let Sent : List ℕ → Type 0 = λ us. IsSentAlong us c.carry.new.units path (length path) in
    let SentTo : List ℕ → Type 0 = λ us. IsSentAlong old.flow.units.items us path (length path) in
    let Gain : List ℕ → Type 0 = λ us. GainAlong us c.carry.new.units path in
    let GainTo : List ℕ → Type 0 = λ us. GainAlong old.flow.units.items us path in
    let moved = ap (λ (xs : List ℤ). after_unit xs c.args.source c.in-Some.goal) c.deref_mut-surplus.ensures.value in
    sent-ships g old _ c.args.source c.in-Some.goal path c.requires.can c.requires.some c.requires.source
    (omega (arith, c.in-Some.ensures.else_same, nodes)) found refl
    (subst SentTo (sym units) (subst Sent c.deref_mut-units.ensures.value c.carry.ensures.sent))
    (subst GainTo (sym units) (subst Gain c.deref_mut-units.ensures.value c.carry.ensures.gain))
    (surplus ∙ c.move_unit.ensures ∙ moved) (ap length prices ∙ c.find-found.auto.prices ∙ ap length
    c.deref_mut-prices.ensures.value)

pub returns-clause-sent : goal.returns-clause-sent
returns-clause-sent c =
    let g = c.args.net.now in
    let old = c.args.shipment.now in
    let source = c.args.source in
    let goal_ = c.in-Some.goal in
    let same = c.loaded-residual.ensures in
    let nodes = ap (λ (r : ResidualNet). r.graph.nodes) same in
    let surplus =
    with_items_is old.surplus c.move_unit.new.surplus (c.move_unit.auto.surplus ∙ c.deref_mut-surplus.ensures.len) in
    let moved = ap (λ (xs : List ℤ). after_unit xs source goal_) c.deref_mut-surplus.ensures.value in
    let lacks = subst (λ (xs : List ℤ). Lacks xs goal_) c.deref.ensures.value c.in-Some.ensures.found.lacks in
    ap (λ (xs : List ℤ). price_at xs source) (surplus ∙ c.move_unit.ensures ∙ moved)
    ∙ unit-source old.surplus.items source goal_ c.requires.some lacks
    (omega (arith, c.requires.source, c.requires.can.sized.surplus))
    (omega (arith, c.in-Some.ensures.else_same, nodes, c.requires.can.sized.surplus))

pub list_loaded-requires-clause-arcs : goal.list_loaded-requires-clause-arcs
list_loaded-requires-clause-arcs c = λ i within.
    let g = c.args.net.now in
    let old = c.args.shipment.now in
    let same = c.loaded-residual.ensures in
    let P : ResidualNet → Type 0 = λ r. IsPath r c.args.source c.find-found.new.self.path c.in-Some.goal in
    let path = subst P same c.in-Some.ensures.found.is_path in
    let Q : List Step → Type 0 = λ steps. (j : ℕ) → j < length steps → arc_no (step_in steps j) < length g.arcs in
    let open_ = leads-open (residual_of g old) c.args.source c.find-found.new.self.path c.in-Some.goal path.leads in
    subst Q (sym c.path-path.ensures) (λ j inside. (open_ j inside).arc) i within

pub returns-clause-loads : goal.returns-clause-loads
returns-clause-loads c =
    let old = c.args.shipment.now in
    let path = c.path-path.result.now in
    let units =
    with_items_is old.flow.units c.carry.new.units (c.carry.auto.units ∙ c.deref_mut-units.ensures.len) in
    let Sent : List ℕ → Type 0 = λ us. IsSentAlong us c.carry.new.units path (length path) in
    let Loaded : List ℕ → Type 0 = λ us. AreLoads c.args.net.now us c.list_loaded.new.loads in
    subst Loaded (sym units)
    (loads-sent c.args.net.now old.flow.units.items c.carry.new.units c.args.loads.now c.list_loaded.new.loads path
    c.requires.loads (subst Sent c.deref_mut-units.ensures.value c.carry.ensures.sent) c.list_loaded.ensures)
