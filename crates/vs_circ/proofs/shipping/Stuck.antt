-- Units that are stuck show that the trips that have to run can't all be run.
use Rattle.std.proofs.Common.{◌≡◌, ◌<◌, ◌≤◌, ◌∙◌, ℕ, zero, suc, Bool, true, false, cond, List, [], ◌∷◌, length, get_or, refl, ap, arith, ℤ, pos, negsuc, neg_ℤ, ◌+ℤ◌, ◌-ℤ◌, ◌*ℤ◌, ◌≤ℤ◌, ◌<ℤ◌}
use Rattle.std.specs.Int.{int_max}
use Rattle.std.proofs.lemmas.Int.{ints}
use Rattle.vs_types.specs.declared.numbers.LayerNo.{LayerNo}
use Rattle.vs_layer.specs.declared.arc.Arc.{Arc}
use Rattle.vs_layer.specs.Graph.{arc_of}
use Rattle.vs_instance.specs.declared.limits.TheConstants.{MAX_TRIPS}
use Rattle.vs_instance.specs.Problem.{Problem}
use Rattle.vs_match.specs.declared.arc_kind.ArcKind.{ArcKind}
use Rattle.vs_match.specs.LawfulNets.{IsLawful}
use Rattle.vs_match.specs.LayerGraph.{LayerGraph, kind_of}
use Rattle.vs_queue.specs.declared.step.Step.TheVariants.{Forward}
use Rattle.vs_path.specs.Residual.{IsOpen, price_at}
use Rattle.vs_ship.specs.declared.shipment.Shipment.{Shipment}
use Rattle.vs_ship.specs.Balance.{gained, weighed}
use Rattle.vs_circ.specs.node_prices.NodePrices.{AreMovePrices, IsEmptyMove}
use Rattle.vs_circ.specs.shipping.Prepared.{AreOfferedRooms, offered_room}
use Rattle.vs_circ.specs.PricedFlows.{IsStuckAt, end_node, last_arc, must_units, vehicle_price}
use Rattle.vs_ship.specs.Shipments.{CanShip, IsStuck, residual_of}
use Rattle.vs_ship.proofs.CallerLemmas.{arc_gain, cut-arc_gain, cut-gain, cut-weighed, is_in, is_in-from, is_in-to, one_where, passed}
use Rattle.vs_circ.proofs.low.LawfulArcs.{last_inside, last_kind, return_arc, return_from}
use Rattle.vs_circ.proofs.shipping.Settling.{empty_room}

times_neg : (x : ℤ) (n : ℕ) → neg_ℤ x *ℤ pos n ≡ neg_ℤ (x *ℤ pos n)
times_neg (pos zero) n = omega (arith, ints)
times_neg (pos (suc m)) n = omega (arith, ints)
times_neg (negsuc m) n = omega (arith, ints)

-- weights that are less than nothing gain as much less
gained-neg : (f h : ℕ → ℤ) (arcs : List Arc) (units : List ℕ) → ((v : ℕ) → f v ≡ neg_ℤ (h v))
    → gained f arcs units ≡ neg_ℤ (gained h arcs units)
gained-neg f h [] units each = refl
gained-neg f h (a ∷ arcs) [] each = refl
gained-neg f h (a ∷ arcs) (n ∷ units) each =
    let from = each a.from in
    let to = each a.to in
    let gain : arc_gain f a ≡ neg_ℤ (arc_gain h a) = omega (arith, ints, from, to) in
    let here = ap (λ (z : ℤ). z *ℤ pos n) gain ∙ times_neg (arc_gain h a) n in
    let rest = gained-neg f h arcs units each in
    omega (arith, ints, here, rest)

module _ (p : Problem) (l : LayerNo) (n : LayerGraph) (lawful : IsLawful p l.0 n) (must : List Bool) (s : Shipment)
    (source : ℕ) (nodes : List ℕ) (can : CanShip n.graph s) (stuck : IsStuck n.graph s source nodes)
    (supplied : (weight : ℕ → ℤ) → weighed weight s.surplus.items
    ≡ gained weight n.graph.arcs (must_units n must) +ℤ gained weight n.graph.arcs s.flow.units.items)
    (rooms : AreOfferedRooms n [] s.costs.room.items) (few : (k : ℕ) → get_or s.flow.units.items k 0 ≤ MAX_TRIPS)
    (prices : List ℤ) (priced : (v : ℕ) → price_at prices v ≡ neg_ℤ (one_where (is_in nodes) v)) where
  abbrev inside : ℕ → Bool
  inside = is_in nodes

  -- no empty move leaves the nodes
  moves_inside : (k : ℕ) → k < length n.graph.arcs → IsEmptyMove (kind_of n k) → inside (arc_of n.graph k).from ≡ true
      → inside (arc_of n.graph k).to ≡ true
  moves_inside k within empty from =
      let room = rooms k within ∙ empty_room [] (kind_of n k) (arc_of n.graph k) empty in
      let open_ : IsOpen (residual_of n.graph s) (Forward k) =
      record { arc = within; room = omega (arith, room, few k) } in
      is_in-from nodes (arc_of n.graph k).to
      (stuck.cut.closed (Forward k) open_ (is_in-to nodes (arc_of n.graph k).from from))

  price_in : (v : ℕ) (b : Bool) → inside v ≡ b → price_at prices v ≡ neg_ℤ (cond b (pos 1) (pos 0))
  price_in v b e = priced v ∙ ap (λ (x : Bool). neg_ℤ (cond x (pos 1) (pos 0))) e

  moves : AreMovePrices n true prices
  moves k within empty = go (inside (arc_of n.graph k).from) (inside (arc_of n.graph k).to) refl refl
    where
      go : (a b : Bool) → inside (arc_of n.graph k).from ≡ a → inside (arc_of n.graph k).to ≡ b
          → price_at prices (arc_of n.graph k).to ≤ℤ (price_at prices (arc_of n.graph k).from +ℤ pos 0)
      go true true e f =
          let from = price_in (arc_of n.graph k).from true e in
          let to = price_in (arc_of n.graph k).to true f in
          omega (arith, ints, from, to)
      go true false e f = let to = moves_inside k within empty e in absurd (cc)
      go false true e f =
          let from = price_in (arc_of n.graph k).from false e in
          let to = price_in (arc_of n.graph k).to true f in
          omega (arith, ints, from, to)
      go false false e f =
          let from = price_in (arc_of n.graph k).from false e in
          let to = price_in (arc_of n.graph k).to false f in
          omega (arith, ints, from, to)

  abbrev room : ℕ
  room = (arc_of n.graph (last_arc n)).room

  room_is : get_or s.costs.room.items (last_arc n) 0 ≡ room
  room_is =
      rooms (last_arc n) (last_inside p l n lawful)
      ∙ ap (λ (kind : ArcKind). offered_room [] kind (arc_of n.graph (last_arc n))) (last_kind p l n lawful)

  -- what the units gain that leave the nodes by the way back
  back_gain : gained (one_where inside) n.graph.arcs s.flow.units.items ≤ℤ passed (inside (end_node n)) (inside 0) room
  back_gain =
      let gain = cut-arc_gain n.graph s source nodes can.sized stuck (last_arc n) (last_inside p l n lawful) in
      let taken = get_or s.costs.room.items (last_arc n) 0 in
      let from =
      ap (λ (v : ℕ). passed (inside v) (inside (arc_of n.graph (last_arc n)).to) taken) (return_from p l n lawful) in
      let to = ap (λ (v : ℕ). passed (inside (end_node n)) (inside v) taken) (return_arc p l n lawful).to in
      let is = ap (λ (r : ℕ). passed (inside (end_node n)) (inside 0) r) room_is in
      omega (arith, ints, gain, from, to, is)

  abbrev needed : ℤ
  needed = gained (one_where inside) n.graph.arcs (must_units n must)

  -- more is supplied to the nodes than what all vehicles would take
  more : (vehicle_price n prices *ℤ pos room)
      <ℤ (pos 0 -ℤ gained (price_at prices) n.graph.arcs (must_units n must))
  more = go (inside 0) (inside (end_node n)) refl refl
    where
      worth : gained (price_at prices) n.graph.arcs (must_units n must) ≡ neg_ℤ needed
      worth = gained-neg (price_at prices) (one_where inside) n.graph.arcs (must_units n must) priced

      some : pos 0 <ℤ (needed +ℤ gained (one_where inside) n.graph.arcs s.flow.units.items)
      some =
          let left = cut-weighed n.graph s source nodes can.sized stuck in
          let is = supplied (one_where inside) in
          omega (arith, ints, left, is)

      vehicle : (a b : Bool) → inside 0 ≡ a → inside (end_node n) ≡ b
          → vehicle_price n prices
          ≡ int_max (pos 0) (neg_ℤ (cond a (pos 1) (pos 0)) -ℤ neg_ℤ (cond b (pos 1) (pos 0)))
      vehicle a b e f =
          ap (λ (z : ℤ). int_max (pos 0) (z -ℤ price_at prices (end_node n))) (price_in 0 a e)
          ∙ ap (λ (z : ℤ). int_max (pos 0) (neg_ℤ (cond a (pos 1) (pos 0)) -ℤ z)) (price_in (end_node n) b f)

      go : (a b : Bool) → inside 0 ≡ a → inside (end_node n) ≡ b
          → (vehicle_price n prices *ℤ pos room)
          <ℤ (pos 0 -ℤ gained (price_at prices) n.graph.arcs (must_units n must))
      go false true e f =
          let pays = ap (λ (z : ℤ). z *ℤ pos room) (vehicle false true e f) in
          let back = back_gain in
          let is = ap (λ (b : Bool). passed b (inside 0) room) f ∙ ap (λ (a : Bool). passed true a room) e in
          let is_worth = worth in
          let more_left = some in
          omega (arith, ints, pays, back, is, is_worth, more_left)
      go true true e f =
          let pays = ap (λ (z : ℤ). z *ℤ pos room) (vehicle true true e f) in
          let none = cut-gain n.graph s source nodes can.sized stuck in
          let is_worth = worth in
          let more_left = some in
          omega (arith, ints, pays, none, is_worth, more_left)
      go true false e f =
          let pays = ap (λ (z : ℤ). z *ℤ pos room) (vehicle true false e f) in
          let none = cut-gain n.graph s source nodes can.sized stuck in
          let is_worth = worth in
          let more_left = some in
          omega (arith, ints, pays, none, is_worth, more_left)
      go false false e f =
          let pays = ap (λ (z : ℤ). z *ℤ pos room) (vehicle false false e f) in
          let none = cut-gain n.graph s source nodes can.sized stuck in
          let is_worth = worth in
          let more_left = some in
          omega (arith, ints, pays, none, is_worth, more_left)

  -- so no vehicles run them all
  pub stuck-at : IsStuckAt n must prices
  stuck-at = record { moves = moves; more = more }
