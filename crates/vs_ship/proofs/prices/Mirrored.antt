-- Steps cost the same by prices that are turned round with the net.
use Rattle.std.proofs.Common.{◌≡◌, ℕ, ◌<◌, ◌∙◌, List, length, sym, ap, subst, arith, ℤ, neg_ℤ}
use Rattle.std.proofs.lemmas.Int.{ints}
use Rattle.std.specs.Prelude.{slice_index}
use Rattle.vs_layer.specs.declared.arc.Arc.{Arc}
use Rattle.vs_layer.specs.Graph.{Graph, AllRight, IsNet, IsRightArc, arc_of}
use Rattle.vs_queue.specs.declared.step.Step.{Step}
use Rattle.vs_queue.specs.declared.step.Step.TheVariants.{Forward, Back}
use Rattle.vs_path.specs.Residual.{ResidualNet, IsResidual, HasRoom, HasSignRule, arc_no, reduced, price_at}
use Rattle.vs_ship.specs.Mirror.{AreTurned, AreTurnedArcs, IsMirrorOf, across, turned}

-- turned round, arcs stand as they should
pub turned-right : (g : Graph) (arcs : List Arc) → IsNet g → AreTurnedArcs g arcs → AllRight g.nodes arcs
turned-right g arcs net are k within =
    let of_net : k < length g.arcs = omega (arith, are.size) in
    let old = net.each_arc k of_net in
    let Is : Arc → Type 0 = λ a. IsRightArc g.nodes (length arcs) k a in
    subst Is (sym (are.each k of_net))
    (record {
      from = omega (arith, old.from, old.to);
      to = omega (arith, old.from, old.to);
      goes_on = record {
        forward = λ more. omega (arith, old.from, old.to, old.goes_on.forward (omega (arith, more, are.size)));
        from_last = λ last. omega (arith, net.nodes, old.goes_on.to_first (omega (arith, last, are.size)));
        to_first = λ last. omega (arith, old.goes_on.from_last (omega (arith, last, are.size)));
      };
    })

-- turned round twice, prices are as before
pub turned-back : (old new : List ℤ) → AreTurned old new → AreTurned new old
turned-back old new are = record {
  size = sym are.size;
  each = λ v within.
      let there = across (length new) v in
      let is = are.each there (omega (arith, are.size)) in
      let here : across (length old) there ≡ v = omega (arith, are.size) in
      let price = ap (λ (u : ℕ). price_at old u) here in
      omega (arith, ints, is, price);
}

module _ (r m : ResidualNet) (is : IsResidual r) (mirror : IsMirrorOf r m) (p q : List ℤ)
    (each_node : length p ≡ r.graph.nodes) (turned_prices : AreTurned p q) where
  price-across : (v w : ℕ) → v < r.graph.nodes → w ≡ across r.graph.nodes v → price_at q w ≡ neg_ℤ (price_at p v)
  price-across v w within at =
      let back : across (length p) w ≡ v = omega (arith, each_node) in
      turned_prices.each w (omega (arith, each_node)) ∙ ap (λ (u : ℕ). neg_ℤ (price_at p u)) back

  module _ (k : ℕ) (below : k < r.arcs) where
    of_net : k < length r.graph.arcs
    of_net = omega (arith, is.arcs)

    arc : arc_of m.graph k ≡ turned r.graph.nodes (arc_of r.graph k)
    arc = mirror.graph.arcs.each k of_net

    from_price : price_at q (arc_of m.graph k).from ≡ neg_ℤ (price_at p (arc_of r.graph k).to)
    from_price = price-across (arc_of r.graph k).to (arc_of m.graph k).from (is.net.each_arc k of_net).to
        (ap (λ (a : Arc). a.from) arc)

    to_price : price_at q (arc_of m.graph k).to ≡ neg_ℤ (price_at p (arc_of r.graph k).from)
    to_price = price-across (arc_of r.graph k).from (arc_of m.graph k).to (is.net.each_arc k of_net).from
        (ap (λ (a : Arc). a.to) arc)

  reduced-turned : (s : Step) → arc_no s < r.arcs → reduced m q s ≡ reduced r p s
  reduced-turned (Forward k) below =
      let cost = ap (λ (cs : List ℤ). price_at cs k) mirror.cost in
      omega (arith, ints, cost, from_price k below, to_price k below)
  reduced-turned (Back k) below =
      let cost = ap (λ (cs : List ℤ). price_at cs k) mirror.cost in
      omega (arith, ints, cost, from_price k below, to_price k below)

  room-turned : (s : Step) → HasRoom m s → HasRoom r s
  room-turned (Forward k) room =
      let Has : List ℕ → Type 0 = λ us. slice_index us k < slice_index r.room k in
      let Has' : List ℕ → Type 0 = λ rs. slice_index m.units k < slice_index rs k in
      subst Has mirror.units (subst Has' mirror.room room)
  room-turned (Back k) room =
      let Has : List ℕ → Type 0 = λ us. 0 < slice_index us k in subst Has mirror.units room

  room-back : (s : Step) → HasRoom r s → HasRoom m s
  room-back (Forward k) room =
      let Has : List ℕ → Type 0 = λ us. slice_index us k < slice_index r.room k in
      let Has' : List ℕ → Type 0 = λ rs. slice_index m.units k < slice_index rs k in
      subst Has' (sym mirror.room) (subst Has (sym mirror.units) room)
  room-back (Back k) room =
      let Has : List ℕ → Type 0 = λ us. 0 < slice_index us k in subst Has (sym mirror.units) room

  -- so the sign rule goes over to the net turned round
  pub sign-turned : HasSignRule r p → HasSignRule m q
  sign-turned rule s is_open =
      let below : arc_no s < r.arcs = omega (arith, is_open.arc, mirror.arcs) in
      let old = rule s (record { arc = below; room = room-turned s is_open.room }) in
      omega (arith, ints, old, reduced-turned s below)

  -- and back
  pub sign-back : HasSignRule m q → HasSignRule r p
  sign-back rule s is_open =
      let new = rule s (record { arc = omega (arith, is_open.arc, mirror.arcs); room = room-back s is_open.room }) in
      omega (arith, ints, new, reduced-turned s is_open.arc)
