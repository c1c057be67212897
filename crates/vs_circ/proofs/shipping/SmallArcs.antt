-- The arcs of a lawful net cost and take little.
use Rattle.std.proofs.Common.{◌≤◌, ◌<◌, ◌-◌, ◌*◌, ℕ, length, sym, subst, arith, ℤ, pos, ◌≤ℤ◌}
use Rattle.std.specs.Prelude.{nat_abs}
use Rattle.std.proofs.lemmas.Int.{ints}
use Rattle.vs_layer.specs.declared.arc.Arc.{Arc}
use Rattle.vs_layer.specs.Graph.{arc_of}
use Rattle.vs_instance.specs.declared.limits.TheConstants.{MAX_DEAREST_SUM, MAX_FLEET}
use Rattle.vs_instance.specs.Problem.{Problem}
use Rattle.vs_instance.specs.Instance.{IsInstance}
use Rattle.vs_instance.specs.Ways.{layer_of, no_trip, trip_of}
use Rattle.vs_instance.proofs.CallerLemmas.{layer_of-IsLayer, rated-below, rated-payable}
use Rattle.vs_match.specs.declared.arc_kind.ArcKind.{ArcKind}
use Rattle.vs_match.specs.declared.arc_kind.ArcKind.TheVariants.{Trip, Waiting, Deadhead, PullOut, PullIn, RestIn, RestWait, RestOut, Return}
use Rattle.vs_match.specs.declared.layer_net.TheConstants.{MAX_ARC_COST}
use Rattle.vs_match.specs.LawfulNets.{IsLawful, IsLawfulArc, IsFreeArc, IsPayableArc}
use Rattle.vs_match.specs.LayerGraph.{LayerGraph, kind_of}
use Rattle.vs_circ.specs.shipping.Prepared.{HasSmallArcs}

record IsSmallArc (p : Problem) (a : Arc) : Type 0 where
  no_gain : pos 0 ≤ℤ a.cost
  cost : a.cost ≤ℤ MAX_ARC_COST
  payable : IsPayableArc p a
  room : a.room ≤ MAX_FLEET

module _ (p : Problem) (is : IsInstance p) (l : ℕ) (n : LayerGraph) (lawful : IsLawful p l n) where
  fleet-≤ : (layer_of p l).fleet ≤ MAX_FLEET
  fleet-≤ = (layer_of-IsLayer p is l lawful.layer).fleet

  free_arc : (a : Arc) → IsFreeArc p l a → IsSmallArc p a
  free_arc a free = record {
    no_gain = free.no_gain;
    cost = free.limit;
    payable = free.payable;
    room = omega (arith, free.room, fleet-≤);
  }

  small_arc : (kind : ArcKind) (a : Arc) → IsLawfulArc p l n.points kind a → IsSmallArc p a
  small_arc (Trip i) a arc =
      let trip = is.trips i.0 no_trip arc.may_run.0 in
      let few =
      rated-below p is l ((trip_of p i.0).end - (trip_of p i.0).start) (trip_of p i.0).metres lawful.layer
      (omega (arith, trip.end)) trip.metres in
      let all =
      rated-payable p is l ((trip_of p i.0).end - (trip_of p i.0).start) (trip_of p i.0).metres lawful.layer
      (omega (arith, trip.end)) trip.metres in
      record {
        no_gain = subst (λ (x : ℤ). pos 0 ≤ℤ x) (sym arc.cost) (omega (arith, ints));
        cost = subst (λ (x : ℤ). x ≤ℤ MAX_ARC_COST) (sym arc.cost) (omega (arith, ints, few));
        payable = subst (λ (x : ℤ). length p.trips * nat_abs x ≤ 1000 * MAX_DEAREST_SUM) (sym arc.cost)
            (omega (arith, all));
        room = omega (arith, arc.room);
      }
  small_arc Waiting a arc = free_arc a arc.2
  small_arc Deadhead a arc = free_arc a arc.2
  small_arc PullOut a arc = free_arc a arc.2
  small_arc PullIn a arc = free_arc a arc.2
  small_arc RestIn a arc = free_arc a arc.2
  small_arc RestWait a arc = free_arc a arc.2
  small_arc RestOut a arc = free_arc a arc.2
  small_arc Return a arc = record {
    no_gain = subst (λ (x : ℤ). pos 0 ≤ℤ x) (sym arc.cost) (omega (arith, ints));
    cost = subst (λ (x : ℤ). x ≤ℤ MAX_ARC_COST) (sym arc.cost) (omega (arith, ints));
    payable = subst (λ (x : ℤ). length p.trips * nat_abs x ≤ 1000 * MAX_DEAREST_SUM) (sym arc.cost) (omega arith);
    room = omega (arith, arc.room, fleet-≤);
  }

  pub small_arcs : HasSmallArcs n
  small_arcs = record {
    no_gain = λ k within. (small_arc (kind_of n k) (arc_of n.graph k) (lawful.arcs k within)).no_gain;
    cost = λ k within. (small_arc (kind_of n k) (arc_of n.graph k) (lawful.arcs k within)).cost;
    room = λ k within. (small_arc (kind_of n k) (arc_of n.graph k) (lawful.arcs k within)).room;
    trip = λ i k within is_trip.
        (subst (λ (kind : ArcKind). IsLawfulArc p l n.points kind (arc_of n.graph k)) is_trip
        (lawful.arcs k within)).room;
    one_arc = lawful.one_arc;
  }

  -- as many of each arc as there are trips don't cost too much
  pub payable_arcs : (k : ℕ) → k < length n.graph.arcs → IsPayableArc p (arc_of n.graph k)
  payable_arcs k within = (small_arc (kind_of n k) (arc_of n.graph k) (lawful.arcs k within)).payable
