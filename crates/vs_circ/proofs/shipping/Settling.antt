-- Where units that suited their arcs were sent until nothing was left, nobody gains by another flow.
use Rattle.std.proofs.Common.{◌≡◌, ◌<◌, ◌≤◌, ◌∙◌, ℕ, List, length, get_or, refl, sym, ap, arith, ℤ, pos, Option, Some, None, ◌-ℤ◌, ◌≤ℤ◌}
use Rattle.std.proofs.lemmas.Int.{ints}
use Rattle.vs_types.specs.declared.numbers.LayerNo.{LayerNo}
use Rattle.vs_layer.specs.declared.arc.Arc.{Arc}
use Rattle.vs_layer.specs.Graph.{Graph, arc_of}
use Rattle.vs_layer.specs.Circulation.{IsCirculation}
use Rattle.vs_instance.specs.Problem.{Problem}
use Rattle.vs_instance.specs.Instance.{IsInstance}
use Rattle.vs_instance.specs.Ways.{layer_of}
use Rattle.vs_match.specs.declared.arc_kind.ArcKind.{ArcKind}
use Rattle.vs_match.specs.declared.arc_kind.ArcKind.TheVariants.{Trip, Waiting, Deadhead, PullOut, PullIn, RestIn, RestWait, RestOut, Return}
use Rattle.vs_match.specs.Decomposition.{vehicles_of}
use Rattle.vs_match.specs.LawfulNets.{IsLawful, IsLawfulArc}
use Rattle.vs_match.specs.LayerGraph.{LayerGraph, IsArcOfTrip, kind_of}
use Rattle.vs_queue.specs.declared.step.Step.TheVariants.{Forward, Back}
use Rattle.vs_path.specs.Residual.{HasSignRule, price_at}
use Rattle.vs_ship.specs.declared.shipment.Shipment.{Shipment}
use Rattle.vs_ship.specs.Balance.{gained, weighed}
use Rattle.vs_circ.specs.node_prices.NodePrices.{IsEmptyMove}
use Rattle.vs_circ.specs.Offers.{offer_of, paid}
use Rattle.vs_circ.specs.shipping.Prepared.{AreOfferedCosts, AreOfferedRooms, offered_cost, offered_room, room_if}
use Rattle.vs_ship.specs.Suiting.{worth_less}
use Rattle.vs_circ.specs.PricedFlows.{IsPricedFlow, KeepsOffers, last_arc, end_node}
use Rattle.vs_circ.specs.shipping.Settled.{IsOfOffers, IsSettled}
use Rattle.vs_ship.specs.Shipments.{CanShip, IsDrained, IsSized, IsStuck, residual_of}
use Rattle.vs_ship.proofs.CallerLemmas.{weighed-none, conserved, last-most, cut-gain, cut-weighed, one_where, is_in}
use Rattle.vs_circ.proofs.low.LawfulArcs.{last_inside, last_kind, return_arc, return_from}
use Rattle.vs_circ.proofs.shipping.SmallArcs.{small_arcs}

-- where nothing was supplied, units aren't stuck
pub not-stuck : (g : Graph) (s : Shipment) (source : ℕ) (nodes : List ℕ) → CanShip g s
    → ((weight : ℕ → ℤ) → weighed weight s.surplus.items ≡ gained weight g.arcs s.flow.units.items)
    → IsStuck g s source nodes → ⊥
not-stuck g s source nodes can balanced stuck =
    let some = cut-weighed g s source nodes can.sized stuck in
    let none = cut-gain g s source nodes can.sized stuck in
    let same = balanced (one_where (is_in nodes)) in
    omega (arith, ints, some, none, same)

-- a trip that takes a unit is offered
offered_if : (offer : Option ℤ) → 0 < room_if offer → (m : ℤ) × (offer ≡ Some m)
offered_if None some = absurd (omega arith)
offered_if (Some m) some = (m, refl)

room_if-≤ : (offer : Option ℤ) → room_if offer ≤ 1
room_if-≤ None = omega arith
room_if-≤ (Some m) = omega arith

-- an empty move costs what it costs, and takes any number of units
empty_cost : (offers : List (Option ℤ)) (kind : ArcKind) (a : Arc) → IsEmptyMove kind
    → offered_cost offers kind a ≡ a.cost
empty_cost offers (Trip i) a empty = absurd empty
empty_cost offers Waiting a empty = refl
empty_cost offers Deadhead a empty = refl
empty_cost offers PullOut a empty = refl
empty_cost offers PullIn a empty = refl
empty_cost offers RestIn a empty = refl
empty_cost offers RestWait a empty = refl
empty_cost offers RestOut a empty = refl
empty_cost offers Return a empty = refl

pub empty_room : (offers : List (Option ℤ)) (kind : ArcKind) (a : Arc) → IsEmptyMove kind
    → offered_room offers kind a ≡ 4294967295
empty_room offers (Trip i) a empty = absurd empty
empty_room offers Waiting a empty = refl
empty_room offers Deadhead a empty = refl
empty_room offers PullOut a empty = refl
empty_room offers PullIn a empty = refl
empty_room offers RestIn a empty = refl
empty_room offers RestWait a empty = refl
empty_room offers RestOut a empty = refl
empty_room offers Return a empty = absurd empty

-- an arc has room for what a trip's takes, and for as many units as there are vehicles
arc_room : (p : Problem) (l : ℕ) (n : LayerGraph) (offers : List (Option ℤ)) (kind : ArcKind) (a : Arc) (u : ℕ)
    → IsLawfulArc p l n.points kind a → u ≤ offered_room offers kind a → u ≤ (layer_of p l).fleet → u ≤ a.room
arc_room p l n offers (Trip i) a u arc within few = omega (arith, room_if-≤ (offer_of offers i.0), arc.room)
arc_room p l n offers Waiting a u arc within few = omega (arith, arc.2.room)
arc_room p l n offers Deadhead a u arc within few = omega (arith, arc.2.room)
arc_room p l n offers PullOut a u arc within few = omega (arith, arc.2.room)
arc_room p l n offers PullIn a u arc within few = omega (arith, arc.2.room)
arc_room p l n offers RestIn a u arc within few = omega (arith, arc.2.room)
arc_room p l n offers RestWait a u arc within few = omega (arith, arc.2.room)
arc_room p l n offers RestOut a u arc within few = omega (arith, arc.2.room)
arc_room p l n offers Return a u arc within few = within

module _ (p : Problem) (is : IsInstance p) (l : LayerNo) (n : LayerGraph) (lawful : IsLawful p l.0 n)
    (offers : List (Option ℤ)) (s : Shipment) (sized : IsSized n.graph s) (offered : IsOfOffers n offers s)
    (nothing : (weight : ℕ → ℤ) → gained weight n.graph.arcs s.flow.units.items ≡ pos 0) (prices : List ℤ)
    (signs : HasSignRule (residual_of n.graph s) prices) where
  abbrev units_at : ℕ → ℕ
  units_at k = get_or s.flow.units.items k 0

  abbrev room_at : ℕ → ℕ
  room_at k = get_or s.costs.room.items k 0

  abbrev loss : ℕ → ℤ
  loss k = worth_less n.graph s.costs.cost.items prices k

  no_more : (k : ℕ) → k < length n.graph.arcs → units_at k < room_at k → pos 0 ≤ℤ loss k
  no_more k within room = signs (Forward k) (record { arc = within; room = room })

  no_less : (k : ℕ) → k < length n.graph.arcs → 0 < units_at k → loss k ≤ℤ pos 0
  no_less k within some =
      let back = signs (Back k) (record { arc = within; room = some }) in omega (arith, ints, back)

  last_room : room_at (last_arc n) ≡ (arc_of n.graph (last_arc n)).room
  last_room =
      offered.rooms (last_arc n) (last_inside p l n lawful)
      ∙ ap (λ (kind : ArcKind). offered_room offers kind (arc_of n.graph (last_arc n))) (last_kind p l n lawful)

  last_cost : price_at s.costs.cost.items (last_arc n) ≡ pos 0
  last_cost =
      offered.costs (last_arc n) (last_inside p l n lawful)
      ∙ ap (λ (kind : ArcKind). offered_cost offers kind (arc_of n.graph (last_arc n))) (last_kind p l n lawful)
      ∙ (return_arc p l n lawful).cost

  -- no more vehicles are used than there are
  vehicles : vehicles_of n s.flow.units.items ≤ (arc_of n.graph (last_arc n)).room
  vehicles = omega (arith, offered.in_room (last_arc n) (last_inside p l n lawful), last_room)

  -- no arc carries more units than there are vehicles
  few : (k : ℕ) → k < length n.graph.arcs → units_at k ≤ (arc_of n.graph (last_arc n)).room
  few k within = omega (
    arith,
    last-most n.graph s.flow.units.items sized.units nothing lawful.net k within,
    vehicles,
  )

  empty_loss : (k : ℕ) → k < length n.graph.arcs → IsEmptyMove (kind_of n k)
      → price_at s.costs.cost.items k ≡ (arc_of n.graph k).cost
  empty_loss k within empty = offered.costs k within ∙ empty_cost offers (kind_of n k) (arc_of n.graph k) empty

  empty_more : (k : ℕ) → k < length n.graph.arcs → IsEmptyMove (kind_of n k) → pos 0 ≤ℤ loss k
  empty_more k within empty =
      let room = offered.rooms k within ∙ empty_room offers (kind_of n k) (arc_of n.graph k) empty in
      let small = (small_arcs p is l.0 n lawful).room (last_arc n) (last_inside p l n lawful) in
      no_more k within (omega (arith, room, few k within, small))

  trip_room : (i k : ℕ) → IsArcOfTrip n.kinds i k → room_at k ≡ room_if (offer_of offers i)
  trip_room i k arc =
      offered.rooms k (omega (arith, arc.0, lawful.labelled.each_arc))
      ∙ ap (λ (kind : ArcKind). offered_room offers kind (arc_of n.graph k)) arc.1

  last_loss : loss (last_arc n) ≡ price_at prices (end_node n) -ℤ price_at prices 0
  last_loss =
      let cost = last_cost in
      let from = ap (price_at prices) (return_from p l n lawful) in
      let to = ap (price_at prices) (return_arc p l n lawful).to in
      omega (arith, ints, cost, from, to)

  pub settled-flow : IsPricedFlow n s.flow.units.items prices
  settled-flow = record {
    each_arc = sized.units;
    balanced = nothing;
    once = λ i k arc.
        omega (
          arith,
          offered.in_room k (omega (arith, arc.0, lawful.labelled.each_arc)),
          trip_room i k arc,
          room_if-≤ (offer_of offers i),
        );
    fleet = vehicles;
    moves = λ k within empty.
        let more = empty_more k within empty in
        let cost = empty_loss k within empty in
        omega (arith, ints, more, cost);
    tight = λ k within empty some.
        let more = empty_more k within empty in
        let less = no_less k within some in
        let cost = empty_loss k within empty in
        omega (arith, ints, more, less, cost);
    left = λ less.
        let more = no_more (last_arc n) (last_inside p l n lawful) (omega (arith, less, last_room)) in
        let is_loss = last_loss in
        omega (arith, ints, more, is_loss);
    used = λ some.
        let less = no_less (last_arc n) (last_inside p l n lawful) some in
        let is_loss = last_loss in
        omega (arith, ints, less, is_loss);
  }

  offered_loss : (i k : ℕ) (m : ℤ) → IsArcOfTrip n.kinds i k → offer_of offers i ≡ Some m
      → price_at s.costs.cost.items k ≡ (arc_of n.graph k).cost -ℤ m
  offered_loss i k m arc offer =
      offered.costs k (omega (arith, arc.0, lawful.labelled.each_arc))
      ∙ ap (λ (kind : ArcKind). offered_cost offers kind (arc_of n.graph k)) arc.1
      ∙ ap (λ (o : Option ℤ). (arc_of n.graph k).cost -ℤ paid o) offer

  pub settled-keeps : KeepsOffers n offers s.flow.units.items prices
  settled-keeps = record {
    runs = λ i k arc some.
        let within : k < length n.graph.arcs = omega (arith, arc.0, lawful.labelled.each_arc) in
        let offer = offered_if (offer_of offers i) (omega (arith, offered.in_room k within, trip_room i k arc, some)) in
        let less = no_less k within some in
        let cost = offered_loss i k offer.0 arc offer.1 in
        (offer.0, offer.1, omega (arith, ints, less, cost));
    rests = λ i k m arc none offer.
        let within : k < length n.graph.arcs = omega (arith, arc.0, lawful.labelled.each_arc) in
        let room = trip_room i k arc ∙ ap room_if offer in
        let more = no_more k within (omega (arith, none, room)) in
        let cost = offered_loss i k m arc offer in
        omega (arith, ints, more, cost);
  }

  pub settled-circulation : IsCirculation n.graph s.flow.units.items
  settled-circulation = record {
    each_arc = sized.units;
    rooms = λ k within.
        arc_room p l.0 n offers (kind_of n k) (arc_of n.graph k) (units_at k) (lawful.arcs k within)
        (omega (arith, offered.in_room k within, offered.rooms k within))
        (omega (arith, few k within, (return_arc p l n lawful).room));
    conserved = λ v within. conserved n.graph s.flow.units.items sized.units nothing v;
  }

-- a shipment from which nothing is left to send is settled, by its own prices
pub is-settled : (p : Problem) → IsInstance p → (l : LayerNo) (n : LayerGraph) → IsLawful p l.0 n
    → (offers : List (Option ℤ)) (s : Shipment) → CanShip n.graph s → IsDrained s.surplus.items
    → ((weight : ℕ → ℤ) → weighed weight s.surplus.items ≡ gained weight n.graph.arcs s.flow.units.items)
    → AreOfferedCosts n offers s.costs.cost.items → AreOfferedRooms n offers s.costs.room.items → IsSettled n offers s
is-settled p is l n lawful offers s can drained balanced costs rooms =
    let offered : IsOfOffers n offers s =
    record { costs = costs; small = can.costs; rooms = rooms; in_room = can.in_room } in
    let nothing : (weight : ℕ → ℤ) → gained weight n.graph.arcs s.flow.units.items ≡ pos 0 =
    λ weight. sym (balanced weight) ∙ weighed-none weight s.surplus.items drained in
    let prices = s.prices.items in
    record {
      sized = can.sized;
      circulation = settled-circulation p is l n lawful offers s can.sized offered nothing prices can.signs;
      flow = settled-flow p is l n lawful offers s can.sized offered nothing prices can.signs;
      keeps = settled-keeps p is l n lawful offers s can.sized offered nothing prices can.signs;
      prices = can.prices;
      signs = can.signs;
      offered = offered;
    }
