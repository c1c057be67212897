use Rattle.std.proofs.Common.{◌≡◌, ◌∙◌, ◌<◌, ◌+ℤ◌, ◌-ℤ◌, ℕ, ℤ, List, length, set, sym, subst, ap, arith, rules, w64, of_z, to_z, pos, length-set}
use Rattle.std.proofs.lemmas.Int.{to_z-of_z}
use Rattle.std.proofs.lemmas.List.{get_or-set_same, with_items_is}
use Rattle.std.specs.Vec.{with_items}
use Rattle.vs_layer.specs.declared.arc.Arc.{Arc}
use Rattle.vs_layer.specs.Graph.{arc_of}
use Rattle.vs_path.specs.Residual.{price_at}
use Rattle.vs_ship.specs.Leaving.{IsLeftBy}
use Rattle.vs_ship.specs.Suiting.{DoSuit}
use Rattle.vs_circ.specs.shipping.Refitted.{IsMovedOnce}
use Rattle.vs_circ.proofs.refitting.refit_arc.Goals as goal

-- what a unit more costs, by the same numbers
loss-as : (cost : ℤ) (a b : Arc) (ps qs : List ℤ) (room n : ℕ) → a ≡ b → ps ≡ qs
    → DoSuit ((cost +ℤ price_at ps a.from) -ℤ price_at ps a.to) room a.room n
    → DoSuit ((cost +ℤ price_at qs b.from) -ℤ price_at qs b.to) room b.room n
loss-as cost a b ps qs room n same_arc same_prices suits =
    subst (λ (xs : List ℤ). DoSuit ((cost +ℤ price_at xs b.from) -ℤ price_at xs b.to) room b.room n) same_prices
    (subst (λ (x : Arc). DoSuit ((cost +ℤ price_at ps x.from) -ℤ price_at ps x.to) room x.room n) same_arc suits)

pub returns : goal.returns
returns c =
    let g = c.args.net.now in
    let s = c.args.shipment.now in
    let k = c.args.k in
    let n = c.units_for-n.result in
    let word : ℤ = to_z w64 (of_z w64 c.args.cost) in
    let same : word ≡ c.args.cost = to_z-of_z w64 c.args.cost c.ranges.cost in
    let costs : List ℤ = set c.deref_mut-costs.result.now k word in
    let rooms : List ℕ = set c.deref_mut-rooms.result.now k c.args.room in
    let cost = with_items_is s.costs.cost costs
    (length-set c.deref_mut-costs.result.now k word ∙ c.deref_mut-costs.ensures.len) in
    let room = with_items_is s.costs.room rooms
    (length-set c.deref_mut-rooms.result.now k c.args.room ∙ c.deref_mut-rooms.ensures.len) in
    let units =
    with_items_is s.flow.units c.set_units.new.units (c.set_units.auto.units ∙ c.deref_mut-units.ensures.len) in
    let surplus =
    with_items_is s.surplus c.set_units.new.surplus (c.set_units.auto.surplus ∙ c.deref_mut-surplus.ensures.len) in
    let cost_is : (with_items s.costs.cost costs).items ≡ set s.costs.cost.items k c.args.cost =
    cost ∙ ap (λ (z : ℤ). set c.deref_mut-costs.result.now k z) same
    ∙ ap (λ (xs : List ℤ). set xs k c.args.cost) c.deref_mut-costs.ensures.value in
    let inside : k < length s.costs.cost.items = omega (arith, c.requires.arc, c.requires.sized.cost) in
    let here : price_at (with_items s.costs.cost costs).items k ≡ c.args.cost =
    ap (λ (xs : List ℤ). price_at xs k) cost_is ∙ get_or-set_same s.costs.cost.items k c.args.cost (pos 0) inside in
    let Loss : ℤ → Type 0 = λ z. DoSuit ((z +ℤ price_at s.prices.items (arc_of g k).from) -ℤ price_at s.prices.items
    (arc_of g k).to) c.args.room (arc_of g k).room n in
    let Left : List ℤ → Type 0 = IsLeftBy g (with_items s.flow.units c.set_units.new.units).items in
    let LeftBy : List ℕ → Type 0 = λ us. IsLeftBy g us c.set_units.new.surplus in
    let Moved : List ℤ → Type 0 = IsMovedOnce s.surplus.items in
    let MovedFrom : List ℤ → Type 0 = λ xs. IsMovedOnce xs c.set_units.new.surplus in
    record {
      units = n;
      suits = subst Loss (same ∙ sym here)
          (loss-as word c.arc.result (arc_of g k) c.deref.result.now s.prices.items c.args.room n c.arc.ensures
          c.deref.ensures.value c.units_for-n.ensures);
      units_are = units ∙ c.set_units.ensures.units
          ∙ ap (λ (us : List ℕ). set us k n) c.deref_mut-units.ensures.value;
      cost_is = cost_is;
      room_is = room ∙ ap (λ (us : List ℕ). set us k c.args.room) c.deref_mut-rooms.ensures.value;
      prices_are = search rules;
      left = subst Left (sym surplus) (subst LeftBy (sym units) c.set_units.ensures.left);
      moved = subst Moved (sym surplus) (subst MovedFrom c.deref_mut-surplus.ensures.value c.set_units.ensures.moved);
    }
