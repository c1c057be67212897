-- Shipments that supply the trips that have to run, while units are sent.
use Rattle.std.proofs.Common.{◌≡◌, ◌≤◌, ◌∙◌, ◌+◌, ℕ, zero, suc, Bool, true, false, cond, List, [], ◌∷◌, length, map, get_or, refl, sym, subst, arith, inl, inr, ℤ, pos, ◌≤ℤ◌}
use Rattle.std.proofs.lemmas.Int.{ints}
use Rattle.std.proofs.lemmas.List.{length-map}
use Rattle.vs_types.specs.declared.numbers.LayerNo.{LayerNo}
use Rattle.vs_layer.specs.declared.arc.Arc.{Arc}
use Rattle.vs_layer.specs.Graph.{arc_of}
use Rattle.vs_instance.specs.declared.limits.TheConstants.{MAX_TRIPS}
use Rattle.vs_instance.specs.Problem.{Problem}
use Rattle.vs_instance.specs.Instance.{IsInstance}
use Rattle.vs_instance.specs.Lagrangian.{total}
use Rattle.vs_instance.proofs.CallerLemmas.{total-range_le}
use Rattle.vs_match.specs.declared.arc_kind.ArcKind.{ArcKind}
use Rattle.vs_match.specs.declared.arc_kind.ArcKind.TheVariants.{Trip, Waiting, Deadhead, PullOut, PullIn, RestIn, RestWait, RestOut, Return}
use Rattle.vs_match.specs.LawfulNets.{IsLawful}
use Rattle.vs_match.specs.LayerGraph.{LayerGraph, kind_at, kind_of}
use Rattle.vs_path.specs.declared.residual.TheConstants.{MAX_SEARCH_NODES}
use Rattle.vs_path.specs.declared.residual.Costs.{Costs}
use Rattle.vs_ship.specs.declared.shipment.Shipment.{Shipment}
use Rattle.vs_circ.specs.shipping.Prepared.{AreOfferedCosts, AreOfferedRooms, offered_cost}
use Rattle.vs_ship.specs.Suiting.{AllSuit}
use Rattle.vs_ship.specs.Leaving.{AreNone, IsLeftBy}
use Rattle.vs_circ.specs.PricedFlows.{must_on, must_units}
use Rattle.vs_ship.specs.Shipments.{CanShip, IsSized, Ships, excess}
use Rattle.vs_circ.specs.shipping.Supplied.{IsSupplied}
use Rattle.vs_ship.proofs.CallerLemmas.{excess-weighed, gained-none, gained-≤, has_excess, one_where, total-range_suc, suit-signs}
use Rattle.vs_circ.proofs.low.Reindexing.{over_range, total-same}
use Rattle.vs_circ.proofs.low.TripArcs.{arc_or_none, at_trip, at_trip-arc, at_trip-none, on_trip, on_trips, total-by_trip}
use Rattle.vs_circ.proofs.low.UnitBlocks.{arcs_inside}
use Rattle.vs_circ.proofs.shipping.Preparing.{rooms-within, steps-within}
use Rattle.vs_circ.proofs.shipping.SmallSteps.{small_steps_of_none}
use Rattle.vs_circ.proofs.shipping.SmallArcs.{small_arcs}

-- where no trip is offered, an arc costs what it costs
pub unoffered_cost : (kind : ArcKind) (a : Arc) → offered_cost [] kind a ≡ a.cost
unoffered_cost (Trip i) a = omega (arith, ints)
unoffered_cost Waiting a = refl
unoffered_cost Deadhead a = refl
unoffered_cost PullOut a = refl
unoffered_cost PullIn a = refl
unoffered_cost RestIn a = refl
unoffered_cost RestWait a = refl
unoffered_cost RestOut a = refl
unoffered_cost Return a = refl

must_if-≤ : (b : Bool) → cond b 1 0 ≤ 1
must_if-≤ true = omega arith
must_if-≤ false = omega arith

-- one unit at most is on each arc
pub must_on-≤ : (must : List Bool) (kind : ArcKind) → must_on must kind ≤ 1
must_on-≤ must (Trip i) = must_if-≤ (get_or must i.0 false)
must_on-≤ must Waiting = omega arith
must_on-≤ must Deadhead = omega arith
must_on-≤ must PullOut = omega arith
must_on-≤ must PullIn = omega arith
must_on-≤ must RestIn = omega arith
must_on-≤ must RestWait = omega arith
must_on-≤ must RestOut = omega arith
must_on-≤ must Return = omega arith

-- and only on the arcs of trips
must_on-trip : (must : List Bool) (kind : ArcKind) → pos (must_on must kind) ≡ on_trip kind (pos (must_on must kind))
must_on-trip must (Trip i) = refl
must_on-trip must Waiting = refl
must_on-trip must Deadhead = refl
must_on-trip must PullOut = refl
must_on-trip must PullIn = refl
must_on-trip must RestIn = refl
must_on-trip must RestWait = refl
must_on-trip must RestOut = refl
must_on-trip must Return = refl

-- units in all, as a total over the arcs
total-kinds : (f : ArcKind → ℕ) (kinds : List ArcKind)
    → total (map (λ n. pos n) (map f kinds)) ≡ over_range (λ k. pos (f (kind_at kinds k))) 0 (length kinds)
total-kinds f [] = refl
total-kinds f (kind ∷ kinds) =
    let rest = total-kinds f kinds in
    let shifted = total-range_suc (λ k. pos (f (kind_at (kind ∷ kinds) k))) 0 (length kinds) in
    omega (arith, ints, rest, shifted)

-- so many ones
total-ones : (a n : ℕ) → over_range (λ i. pos 1) a n ≡ pos n
total-ones a zero = refl
total-ones a (suc n) = let rest = total-ones (a + 1) n in omega (arith, ints, rest)

module _ (p : Problem) (is : IsInstance p) (l : LayerNo) (n : LayerGraph) (lawful : IsLawful p l.0 n)
    (must : List Bool) where
  abbrev due : ℕ → ℤ
  due k = pos (must_on must (kind_at n.kinds k))

  one_each : (i : ℕ) → at_trip n.kinds due i ≤ℤ pos 1
  one_each i =
      elim (arc_or_none n.kinds i) [
        | inl found ↦
            let here = at_trip-arc n.kinds due i found.0 found.1
            (λ j other. lawful.one_arc i j found.0 other found.1) in
            let few = must_on-≤ must (kind_at n.kinds found.0) in
            omega (arith, ints, here, few)
        | inr none ↦ let here = at_trip-none n.kinds due i none in omega (arith, ints, here)
      ]

  -- no more trips have to run than there are
  few_due : total (map (λ u. pos u) (must_units n must)) ≤ℤ pos MAX_TRIPS
  few_due =
      let arcs = total-kinds (must_on must) n.kinds in
      let alone = total-same due (on_trips n.kinds due) 0 (length n.kinds)
      (λ k from within. must_on-trip must (kind_at n.kinds k)) in
      let trips = total-by_trip n.kinds due (length p.trips) (arcs_inside p l n lawful (must_units n must)) in
      let most = total-range_le (at_trip n.kinds due) (λ i. pos 1) 0 (length p.trips) (λ i from within. one_each i) in
      let ones = total-ones 0 (length p.trips) in
      let few = is.few_trips in
      omega (arith, ints, arcs, alone, trips, most, ones, few)

  pub must-sized : length (must_units n must) ≡ length n.graph.arcs
  must-sized = length-map n.kinds (must_on must) ∙ lawful.labelled.each_arc

  module _ (s : Shipment) (left : IsLeftBy n.graph (must_units n must) s.surplus.items) where
    few_left : excess s.surplus.items ≤ℤ pos MAX_TRIPS
    few_left =
        let is_weighed = excess-weighed s.surplus.items in
        let is_gained = left.balanced (one_where (has_excess s.surplus.items)) in
        let most = gained-≤ (has_excess s.surplus.items) n.graph.arcs (must_units n must) must-sized in
        let few = few_due in
        omega (arith, ints, is_weighed, is_gained, most, few)

    module _ (nodes : n.graph.nodes ≤ MAX_SEARCH_NODES) (sized : IsSized n.graph s)
        (costs : AreOfferedCosts n [] s.costs.cost.items) (rooms : AreOfferedRooms n [] s.costs.room.items)
        (none : (k : ℕ) → get_or s.flow.units.items k 0 ≡ 0) (free : AreNone s.prices.items) where
      suits : AllSuit n.graph s.costs.cost.items s.costs.room.items s.prices.items s.flow.units.items
      suits k within =
          let no_gain = (small_arcs p is l.0 n lawful).no_gain k within in
          let cost = costs k within ∙ unoffered_cost (kind_of n k) (arc_of n.graph k) in
          let from = free (arc_of n.graph k).from in
          let to = free (arc_of n.graph k).to in
          record {
            in_room = omega (arith, none k);
            few = omega (arith, none k);
            more = λ room. omega (arith, ints, no_gain, cost, from, to);
            less = λ some. absurd (omega (arith, none k, some));
          }

      can-supply : CanShip n.graph s
      can-supply = record {
        sized = sized;
        nodes = nodes;
        costs =
            steps-within n [] (small_arcs p is l.0 n lawful) (small_steps_of_none p is l n lawful) s.costs.cost.items
            sized.cost costs;
        rooms = rooms-within n [] (small_arcs p is l.0 n lawful) s.costs.room.items sized.room rooms;
        prices = λ v.
            let at = free v in record { low = omega (arith, ints, at); high = omega (arith, ints, at) };
        first = λ v lacks.
            let at = free v in record { low = omega (arith, ints, at); high = omega (arith, ints, at) };
        signs = suit-signs n.graph s suits;
        in_room = λ k within. (suits k within).in_room;
        even = left.even;
      }

      -- what the trips leave that have to run can be sent
      pub is-supplied : IsSupplied n must s
      is-supplied = record {
        can = can-supply;
        cost = costs;
        room = rooms;
        supply = s.surplus.items;
        supply_is = left.balanced;
        balanced = λ weight.
            let nothing = gained-none weight n.graph.arcs s.flow.units.items none in omega (arith, ints, nothing);
        few = λ k within. let few = few_left in let here = none k in omega (arith, ints, few, here);
      }

-- it still can once units were sent
pub supplied-on : (n : LayerGraph) (must : List Bool) (old new : Shipment) → IsSupplied n must old
    → Ships n.graph old new → IsSupplied n must new
supplied-on n must old new is ships = record {
  can = ships.can;
  cost = subst (λ (cs : Costs). AreOfferedCosts n [] cs.cost.items) (sym ships.same_costs) is.cost;
  room = subst (λ (cs : Costs). AreOfferedRooms n [] cs.room.items) (sym ships.same_costs) is.room;
  supply = is.supply;
  supply_is = is.supply_is;
  balanced = ships.balanced is.supply is.balanced;
  few = λ k within.
      let less = ships.few k within in let few = is.few k within in omega (arith, ints, less, few);
}
