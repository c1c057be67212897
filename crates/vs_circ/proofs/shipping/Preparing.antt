-- A shipment whose units suit their arcs can be sent from.
use Rattle.std.proofs.Common.{◌≡◌, ◌<◌, ◌≤◌, ◌^◌, ℕ, List, length, get_or, refl, sym, subst, arith, inl, inr, ℤ, pos, Option, Some, None, ◌≤ℤ◌}
use Rattle.std.proofs.lemmas.Int.{ints}
use Rattle.std.proofs.lemmas.Bool.{cases_lt}
use Rattle.std.proofs.lemmas.List.{get_or_past}
use Rattle.vs_instance.specs.declared.limits.TheConstants.{MAX_FLEET}
use Rattle.vs_layer.specs.declared.arc.Arc.{Arc}
use Rattle.vs_layer.specs.Graph.{arc_of}
use Rattle.vs_match.specs.declared.arc_kind.ArcKind.{ArcKind}
use Rattle.vs_match.specs.declared.arc_kind.ArcKind.TheVariants.{Trip, Waiting, Deadhead, PullOut, PullIn, RestIn, RestWait, RestOut, Return}
use Rattle.vs_match.specs.LayerGraph.{LayerGraph, kind_of}
use Rattle.vs_path.specs.declared.residual.TheConstants.{MAX_SEARCH_NODES}
use Rattle.vs_path.specs.StepCosts.{most_step}
use Rattle.vs_path.specs.Residual.{IsWithin, AllWithin}
use Rattle.vs_ship.specs.declared.shipment.Shipment.{Shipment}
use Rattle.vs_ship.specs.declared.shipment.TheConstants.{MAX_FIRST_PRICE}
use Rattle.vs_circ.specs.Offers.{offer_of}
use Rattle.vs_ship.specs.Shipments.{CanShip, IsSized}
use Rattle.vs_circ.specs.shipping.Prepared.{AreOfferedCosts, AreOfferedRooms, AreSmallSteps, HasSmallArcs, offered_cost, offered_room, room_if}
use Rattle.vs_ship.specs.Suiting.{AllSuit, HasNoGain}
use Rattle.vs_ship.specs.Leaving.{IsLeftBy}
use Rattle.vs_ship.proofs.CallerLemmas.{suit-signs}

room_if-< : (offer : Option ℤ) → room_if offer ≤ 1
room_if-< None = omega arith
room_if-< (Some m) = omega arith

offered_room-< : (offers : List (Option ℤ)) (kind : ArcKind) (a : Arc) → a.room ≤ MAX_FLEET
    → offered_room offers kind a < 2 ^ 32
offered_room-< offers (Trip i) a few = omega (arith, room_if-< (offer_of offers i.0))
offered_room-< offers Waiting a few = omega arith
offered_room-< offers Deadhead a few = omega arith
offered_room-< offers PullOut a few = omega arith
offered_room-< offers PullIn a few = omega arith
offered_room-< offers RestIn a few = omega arith
offered_room-< offers RestWait a few = omega arith
offered_room-< offers RestOut a few = omega arith
offered_room-< offers Return a few = omega arith

-- only an arc that is no trip's takes more than the net lets it
offered-no_gain : (offers : List (Option ℤ)) (kind : ArcKind) (a : Arc) → a.room < offered_room offers kind a
    → pos 0 ≤ℤ a.cost
    → ((i : ℕ) → kind ≡ Trip (record { 0 = i }) → 1 ≤ a.room) → pos 0 ≤ℤ offered_cost offers kind a
offered-no_gain offers (Trip i) a more no_gain trip =
    absurd (omega (arith, room_if-< (offer_of offers i.0), trip i.0 refl))
offered-no_gain offers Waiting a more no_gain trip = no_gain
offered-no_gain offers Deadhead a more no_gain trip = no_gain
offered-no_gain offers PullOut a more no_gain trip = no_gain
offered-no_gain offers PullIn a more no_gain trip = no_gain
offered-no_gain offers RestIn a more no_gain trip = no_gain
offered-no_gain offers RestWait a more no_gain trip = no_gain
offered-no_gain offers RestOut a more no_gain trip = no_gain
offered-no_gain offers Return a more no_gain trip = no_gain

module _ (n : LayerGraph) (offers : List (Option ℤ)) (arcs : HasSmallArcs n) where
  -- no arc costs more than a step may
  pub steps-within : AreSmallSteps n offers → (cost : List ℤ) → length cost ≡ length n.graph.arcs
      → AreOfferedCosts n offers cost → AllWithin (pos (most_step n.graph.nodes)) cost
  steps-within small cost sized offered k =
      elim (cases_lt k (length n.graph.arcs)) [
        | inl within ↦
            subst (IsWithin (pos (most_step n.graph.nodes))) (sym (offered k within)) (small k within)
        | inr past ↦
            let none = get_or_past cost k (pos 0) (omega (arith, past, sized)) in
            record { low = omega (arith, ints, none); high = omega (arith, ints, none) }
      ]

  pub rooms-within : (room : List ℕ) → length room ≡ length n.graph.arcs → AreOfferedRooms n offers room
      → (k : ℕ) → get_or room k 0 < 2 ^ 32
  rooms-within room sized offered k =
      elim (cases_lt k (length n.graph.arcs)) [
        | inl within ↦
            omega (
              arith,
              offered k within,
              offered_room-< offers (kind_of n k) (arc_of n.graph k) (arcs.room k within),
            )
        | inr past ↦ omega (arith, get_or_past room k 0 (omega (arith, past, sized)))
      ]

  pub no-gain : (cost : List ℤ) (room : List ℕ) → AreOfferedCosts n offers cost → AreOfferedRooms n offers room
      → HasNoGain n.graph cost room
  no-gain cost room costs rooms k within more =
      let no_gain =
      offered-no_gain offers (kind_of n k) (arc_of n.graph k) (omega (arith, more, rooms k within))
      (arcs.no_gain k within)
      (λ i is. omega (arith, arcs.trip i k within is)) in
      let is = costs k within in
      omega (arith, ints, no_gain, is)

pub suit-can : (n : LayerGraph) (offers : List (Option ℤ)) (s : Shipment) → HasSmallArcs n → n.graph.nodes ≤
    MAX_SEARCH_NODES
    → AreSmallSteps n offers → IsSized n.graph s → AreOfferedCosts n offers s.costs.cost.items
    → AreOfferedRooms n offers s.costs.room.items → AllWithin MAX_FIRST_PRICE s.prices.items
    → AllSuit n.graph s.costs.cost.items s.costs.room.items s.prices.items s.flow.units.items
    → IsLeftBy n.graph s.flow.units.items s.surplus.items → CanShip n.graph s
suit-can n offers s arcs nodes small sized costs rooms first suit left = record {
  sized = sized;
  nodes = nodes;
  costs = steps-within n offers arcs small s.costs.cost.items sized.cost costs;
  rooms = rooms-within n offers arcs s.costs.room.items sized.room rooms;
  prices = λ v.
      let within = first v in
      record { low = omega (arith, ints, within.low); high = omega (arith, ints, within.high) };
  first = λ v lacks. first v;
  signs = suit-signs n.graph s suit;
  in_room = λ k within. (suit k within).in_room;
  even = left.even;
}
