-- Where nothing is left of what the trips that have to run left at the nodes, they and the units that were sent are a
-- circulation at which nobody gains.
use Rattle.std.proofs.Common.{◌≡◌, ◌<◌, ◌≤◌, ◌+◌, ◌∙◌, ℕ, Bool, true, false, cond, List, [], length, get_or, refl, sym, ap, arith, inl, inr, ℤ, pos, ◌-ℤ◌, ◌≤ℤ◌}
use Rattle.std.proofs.lemmas.Int.{ints}
use Rattle.std.proofs.lemmas.Bool.{cases_lt, false≢true}
use Rattle.std.proofs.lemmas.List.{get_or_past}
use Rattle.vs_types.specs.declared.numbers.LayerNo.{LayerNo}
use Rattle.vs_layer.specs.declared.arc.Arc.{Arc}
use Rattle.vs_layer.specs.Graph.{arc_of}
use Rattle.vs_layer.specs.Circulation.{IsCirculation}
use Rattle.vs_instance.specs.Problem.{Problem}
use Rattle.vs_instance.specs.Instance.{IsInstance}
use Rattle.vs_instance.specs.Ways.{layer_of}
use Rattle.vs_match.specs.declared.arc_kind.ArcKind.{ArcKind}
use Rattle.vs_match.specs.declared.arc_kind.ArcKind.TheVariants.{Trip, Waiting, Deadhead, PullOut, PullIn, RestIn, RestWait, RestOut, Return}
use Rattle.vs_match.specs.Decomposition.{vehicles_of}
use Rattle.vs_match.specs.LawfulNets.{IsLawful, IsLawfulArc}
use Rattle.vs_match.specs.LayerGraph.{LayerGraph, IsArcOfTrip, kind_of}
use Rattle.vs_queue.specs.declared.step.Step.TheVariants.{Forward, Back}
use Rattle.vs_path.specs.Residual.{HasSignRule, price_at}
use Rattle.vs_ship.specs.declared.shipment.Shipment.{Shipment}
use Rattle.vs_ship.specs.Balance.{gained}
use Rattle.vs_circ.specs.Circulations.{CoverExactly}
use Rattle.vs_circ.specs.node_prices.NodePrices.{IsEmptyMove}
use Rattle.vs_circ.specs.Offers.{AreMust, MustRun}
use Rattle.vs_circ.specs.shipping.Prepared.{offered_room}
use Rattle.vs_ship.specs.Suiting.{worth_less}
use Rattle.vs_circ.specs.PricedFlows.{IsPricedFlow, end_node, last_arc, must_on, must_units}
use Rattle.vs_ship.specs.Shipments.{IsDrained, residual_of}
use Rattle.vs_circ.specs.shipping.Supplied.{AreRun, IsGreater, IsSupplied}
use Rattle.vs_ship.proofs.CallerLemmas.{conserved, last-most, gained-both, weighed-none}
use Rattle.vs_circ.proofs.low.LawfulArcs.{last_inside, last_kind, return_arc, return_from}
use Rattle.vs_circ.proofs.low.Stuck.{must_unit}
use Rattle.vs_circ.proofs.shipping.Settling.{empty_room}
use Rattle.vs_circ.proofs.shipping.SmallArcs.{small_arcs}
use Rattle.vs_circ.proofs.shipping.Supplying.{must-sized, must_on-≤, unoffered_cost}

-- nothing has to run on an empty move
empty_due : (must : List Bool) (kind : ArcKind) → IsEmptyMove kind → must_on must kind ≡ 0
empty_due must (Trip i) empty = absurd empty
empty_due must Waiting empty = refl
empty_due must Deadhead empty = refl
empty_due must PullOut empty = refl
empty_due must PullIn empty = refl
empty_due must RestIn empty = refl
empty_due must RestWait empty = refl
empty_due must RestOut empty = refl
empty_due must Return empty = refl

-- a unit has to run where one is on the trip's arc
due_if : (b : Bool) → 0 < cond b 1 0 → b ≡ true
due_if true some = refl
due_if false some = absurd (omega arith)

-- an arc has room for what a trip's takes, and for as many units as there are vehicles
arc_takes : (p : Problem) (l : ℕ) (n : LayerGraph) (kind : ArcKind) (a : Arc) (u : ℕ)
    → IsLawfulArc p l n.points kind a → ((i : ℕ) → kind ≡ Trip (record { 0 = i }) → u ≤ 1) → u ≤ (layer_of p l).fleet
    → u ≤ a.room
arc_takes p l n (Trip i) a u arc one few = omega (arith, one i.0 refl, arc.room)
arc_takes p l n Waiting a u arc one few = omega (arith, few, arc.2.room)
arc_takes p l n Deadhead a u arc one few = omega (arith, few, arc.2.room)
arc_takes p l n PullOut a u arc one few = omega (arith, few, arc.2.room)
arc_takes p l n PullIn a u arc one few = omega (arith, few, arc.2.room)
arc_takes p l n RestIn a u arc one few = omega (arith, few, arc.2.room)
arc_takes p l n RestWait a u arc one few = omega (arith, few, arc.2.room)
arc_takes p l n RestOut a u arc one few = omega (arith, few, arc.2.room)
arc_takes p l n Return a u arc one few = omega (arith, few, arc.room)

greater-none : (u t : ℕ) → IsGreater u 0 t → t ≡ u + 0
greater-none u t is =
    elim is.one [
      | inl e ↦ omega (arith, e)
      | inr e ↦ omega (arith, e, is.first)
    ]

-- one of two numbers of units is 0, so that the greater of them is their sum
greater-sum : (kind : ArcKind) (must : List Bool) (a : Arc) (u t : ℕ) → u ≤ offered_room [] kind a
    → IsGreater u (must_on must kind) t → t ≡ u + must_on must kind
greater-sum (Trip i) must a u t within is =
    elim is.one [
      | inl e ↦ omega (arith, within, e, is.second)
      | inr e ↦ omega (arith, within, e)
    ]
greater-sum Waiting must a u t within is = greater-none u t is
greater-sum Deadhead must a u t within is = greater-none u t is
greater-sum PullOut must a u t within is = greater-none u t is
greater-sum PullIn must a u t within is = greater-none u t is
greater-sum RestIn must a u t within is = greater-none u t is
greater-sum RestWait must a u t within is = greater-none u t is
greater-sum RestOut must a u t within is = greater-none u t is
greater-sum Return must a u t within is = greater-none u t is

module _ (p : Problem) (is : IsInstance p) (l : LayerNo) (n : LayerGraph) (lawful : IsLawful p l.0 n)
    (must : List Bool) (are : AreMust p l.0 must) (s : Shipment) (supplied : IsSupplied n must s)
    (drained : IsDrained s.surplus.items) (both : List ℕ) (run : AreRun n must s.flow.units.items both) where
  abbrev sent_at : ℕ → ℕ
  sent_at k = get_or s.flow.units.items k 0

  abbrev units_at : ℕ → ℕ
  units_at k = get_or both k 0

  abbrev room_at : ℕ → ℕ
  room_at k = get_or s.costs.room.items k 0

  sum : (k : ℕ) → k < length n.graph.arcs → units_at k ≡ sent_at k + must_on must (kind_of n k)
  sum k within =
      greater-sum (kind_of n k) must (arc_of n.graph k) (sent_at k) (units_at k)
      (omega (arith, supplied.can.in_room k within, supplied.room k within))
      (run.each k within)

  -- nothing is left at any node
  nothing : (weight : ℕ → ℤ) → gained weight n.graph.arcs both ≡ pos 0
  nothing weight =
      let together =
      gained-both weight n.graph.arcs both s.flow.units.items (must_units n must) run.each_arc
      supplied.can.sized.units (must-sized p is l n lawful must)
      (λ k within. sum k within ∙ ap (λ (u : ℕ). sent_at k + u) (sym (must_unit must n.kinds k))) in
      let left = supplied.balanced weight in
      let supply = supplied.supply_is weight in
      let none = weighed-none weight s.surplus.items drained in
      omega (arith, ints, together, left, supply, none)

  trip_arc_is : (i k : ℕ) → IsArcOfTrip n.kinds i k
      → (sent_at k ≡ 0) × (units_at k ≡ must_on must (Trip (record { 0 = i })))
  trip_arc_is i k arc =
      let within : k < length n.graph.arcs = omega (arith, arc.0, lawful.labelled.each_arc) in
      let room = supplied.room k within
      ∙ ap (λ (kind : ArcKind). offered_room [] kind (arc_of n.graph k)) arc.1 in
      let none : sent_at k ≡ 0 = omega (arith, supplied.can.in_room k within, room) in
      let due : must_on must (kind_of n k) ≡ must_on must (Trip (record { 0 = i })) =
      ap (λ (kind : ArcKind). must_on must kind) arc.1 in
      (none, omega (arith, sum k within, none, due))

  empty_same : (k : ℕ) → k < length n.graph.arcs → IsEmptyMove (kind_of n k) → units_at k ≡ sent_at k
  empty_same k within empty = omega (arith, sum k within, empty_due must (kind_of n k) empty)

  last_same : units_at (last_arc n) ≡ sent_at (last_arc n)
  last_same =
      let none = ap (λ (kind : ArcKind). must_on must kind) (last_kind p l n lawful) in
      omega (arith, sum (last_arc n) (last_inside p l n lawful), none)

  last_room : room_at (last_arc n) ≡ (arc_of n.graph (last_arc n)).room
  last_room =
      supplied.room (last_arc n) (last_inside p l n lawful)
      ∙ ap (λ (kind : ArcKind). offered_room [] kind (arc_of n.graph (last_arc n))) (last_kind p l n lawful)

  vehicles : vehicles_of n both ≤ (arc_of n.graph (last_arc n)).room
  vehicles = omega (
    arith,
    supplied.can.in_room (last_arc n) (last_inside p l n lawful),
    last_room,
    last_same,
  )

  few : (k : ℕ) → k < length n.graph.arcs → units_at k ≤ (arc_of n.graph (last_arc n)).room
  few k within = omega (arith, last-most n.graph both run.each_arc nothing lawful.net k within, vehicles)

  trip_few : (i k : ℕ) → IsArcOfTrip n.kinds i k → units_at k ≤ 1
  trip_few i k arc = omega (arith, (trip_arc_is i k arc).1, must_on-≤ must (Trip (record { 0 = i })))

  both_room : (k : ℕ) → k < length n.graph.arcs → units_at k ≤ (arc_of n.graph k).room
  both_room k within =
      arc_takes p l.0 n (kind_of n k) (arc_of n.graph k) (units_at k) (lawful.arcs k within)
      (λ i trip. trip_few i k (omega (arith, within, lawful.labelled.each_arc), trip))
      (omega (arith, few k within, (return_arc p l n lawful).room))

  circulation : IsCirculation n.graph both
  circulation = record {
    each_arc = run.each_arc;
    rooms = both_room;
    conserved = λ v within. conserved n.graph both run.each_arc nothing v;
  }

  has_trip : (i : ℕ) → MustRun must i → i < length p.trips
  has_trip i has =
      elim (cases_lt i (length must)) [
        | inl within ↦ omega (arith, within, are.each_trip)
        | inr past ↦ absurd (false≢true (sym (get_or_past must i false past) ∙ has))
      ]

  -- they run exactly the trips that have to run
  pub covers : CoverExactly n must both
  covers = record {
    circulation = circulation;
    only = λ i trip.
        due_if (get_or must i false)
        (omega (arith, (trip_arc_is i trip.0 trip.1).1, trip.2));
    each = λ i has.
        let arc = lawful.each_trip i (has_trip i has, are.permitted i has) in
        let due : must_on must (Trip (record { 0 = i })) ≡ 1 = ap (λ (b : Bool). cond b 1 0) has in
        (arc.0, arc.1, omega (arith, (trip_arc_is i arc.0 arc.1).1, due));
  }

  module _ (prices : List ℤ) (rule : HasSignRule (residual_of n.graph s) prices) where
    abbrev loss : ℕ → ℤ
    loss k = worth_less n.graph s.costs.cost.items prices k

    cost_is : (k : ℕ) → k < length n.graph.arcs → price_at s.costs.cost.items k ≡ (arc_of n.graph k).cost
    cost_is k within = supplied.cost k within ∙ unoffered_cost (kind_of n k) (arc_of n.graph k)

    no_more : (k : ℕ) → k < length n.graph.arcs → sent_at k < room_at k → pos 0 ≤ℤ loss k
    no_more k within room = rule (Forward k) (record { arc = within; room = room })

    no_less : (k : ℕ) → k < length n.graph.arcs → 0 < sent_at k → loss k ≤ℤ pos 0
    no_less k within some =
        let back = rule (Back k) (record { arc = within; room = some }) in omega (arith, ints, back)

    empty_more : (k : ℕ) → k < length n.graph.arcs → IsEmptyMove (kind_of n k) → pos 0 ≤ℤ loss k
    empty_more k within empty =
        let room = supplied.room k within ∙ empty_room [] (kind_of n k) (arc_of n.graph k) empty in
        let small = (small_arcs p is l.0 n lawful).room (last_arc n) (last_inside p l n lawful) in
        no_more k within (omega (arith, room, few k within, small, empty_same k within empty))

    last_loss : loss (last_arc n) ≡ price_at prices (end_node n) -ℤ price_at prices 0
    last_loss =
        let cost = cost_is (last_arc n) (last_inside p l n lawful) ∙ (return_arc p l n lawful).cost in
        let from = ap (price_at prices) (return_from p l n lawful) in
        let to = ap (price_at prices) (return_arc p l n lawful).to in
        omega (arith, ints, cost, from, to)

    -- and nobody gains by another circulation
    pub covers-priced : IsPricedFlow n both prices
    covers-priced = record {
      each_arc = run.each_arc;
      balanced = nothing;
      once = trip_few;
      fleet = vehicles;
      moves = λ k within empty.
          let more = empty_more k within empty in
          let cost = cost_is k within in
          omega (arith, ints, more, cost);
      tight = λ k within empty some.
          let more = empty_more k within empty in
          let less = no_less k within (omega (arith, some, empty_same k within empty)) in
          let cost = cost_is k within in
          omega (arith, ints, more, less, cost);
      left = λ less.
          let more = no_more (last_arc n) (last_inside p l n lawful) (omega (arith, less, last_room, last_same)) in
          let is_loss = last_loss in
          omega (arith, ints, more, is_loss);
      used = λ some.
          let less = no_less (last_arc n) (last_inside p l n lawful) (omega (arith, some, last_same)) in
          let is_loss = last_loss in
          omega (arith, ints, less, is_loss);
    }
