-- A layer's net is lawful: its arcs lie and cost as they should, and each trip has one.
use Rattle.std.proofs.Common.{◌≡◌, ℕ, ◌+◌, ◌-◌, ◌*◌, ◌<◌, ◌≤◌, length, refl, sym, ap, subst, inl, inr, arith, pos}
use Rattle.std.specs.Prelude.{ℤ, ◌≤ℤ◌, nat_abs}
use Rattle.std.proofs.lemmas.Bool.{cases_order}
use Rattle.std.proofs.lemmas.Int.{ints}
use Rattle.vs_instance.specs.declared.limits.TheConstants.{MAX_DEAREST_SUM, TWO_DAYS}
use Rattle.vs_layer.specs.declared.arc.Arc.{Arc}
use Rattle.vs_layer.specs.Graph.{IsNet, arc_of}
use Rattle.vs_instance.specs.Problem.{Problem}
use Rattle.vs_instance.specs.Instance.{IsInstance}
use Rattle.vs_instance.specs.Ways.{layer_of, no_trip}
use Rattle.vs_instance.specs.Pieces.{rated, trip_piece}
use Rattle.vs_instance.proofs.CallerLemmas.{fixed-rated-payable, layer_of-IsLayer, rated-below, rated-payable, way-within}
use Rattle.vs_match.specs.declared.event.Event.{Event}
use Rattle.vs_match.specs.declared.arc_kind.ArcKind.{ArcKind}
use Rattle.vs_match.specs.declared.arc_kind.ArcKind.TheVariants.{Trip, Waiting, Deadhead, PullOut, PullIn, RestIn, RestWait, RestOut, Return}
use Rattle.vs_match.specs.declared.layer_net.TheConstants.{MAX_ARC_COST}
use Rattle.vs_match.specs.declared.matching.Matching.{Matching}
use Rattle.vs_match.specs.Events.{departure, arrival, MayRun, IsEvent, HasPlace, point_of}
use Rattle.vs_match.specs.NetArcs.{IsArcOf, IsTripArc, IsArcBefore, at_scale}
use Rattle.vs_match.specs.LayerGraph.{LayerGraph, IsNetOf, IsArcOfTrip, kind_of}
use Rattle.vs_match.specs.LawfulNets.{IsLawful, IsLawfulArc, IsFreeArc}
use Rattle.vs_match.proofs.events.FewPoints.{few_points}
use Rattle.vs_match.proofs.events.Places.{placed, has_node, same_node}
use Rattle.vs_match.proofs.walks.WalkBounds.{first_of_match}
use Rattle.vs_match.proofs.walks.WalkLaws.{walk_law}

-- the arc of trip i between these nodes
abbrev arc_of_trip : Problem → ℕ → ℕ → ℕ → ℕ → Arc
arc_of_trip p l i u v = record { from = u; to = v; cost = at_scale (trip_piece p l i); room = 1 }

module _ (p : Problem) (is : IsInstance p) (l : ℕ) (within : l < length p.layers) (matching : Matching)
    (n : LayerGraph) (net : IsNetOf p l matching n) where
  -- the minutes of events are those of two days
  ends_within : (e : Event) → IsEvent p l e → e.minute < TWO_DAYS
  ends_within e (inl (i, may, at)) =
      let trip = is.trips i no_trip may.0 in
      omega (arith, ap (λ (x : Event). x.minute) at, trip.end, trip.lasts)
  ends_within e (inr (i, may, at)) =
      omega (arith, ap (λ (x : Event). x.minute) at, (is.trips i no_trip may.0).end)

  event_within : (v : ℕ) (e : Event) → HasPlace n.points v e → e.minute < TWO_DAYS
  event_within v e at =
      let x = placed n.points v (point_of e) at in
      ends_within e (net.points.only (point_of e) (x.k, x.within, x.point (point_of e)))

  -- an arc that costs so much is a free one
  free : (a : Arc) (c : ℕ) → a.cost ≡ at_scale c → c ≤ 20000000000 → length p.trips * c ≤ MAX_DEAREST_SUM
      → a.room ≡ (layer_of p l).fleet → IsFreeArc p l a
  free a c cost few payable room =
      let scaled : length p.trips * (1000 * c) ≤ 1000 * MAX_DEAREST_SUM = omega (arith, payable) in
      record {
        no_gain = subst (λ (x : ℤ). pos 0 ≤ℤ x) (sym cost) (omega (arith, ints));
        limit = subst (λ (x : ℤ). x ≤ℤ MAX_ARC_COST) (sym cost) (omega (arith, ints, few));
        payable =
            subst (λ (x : ℤ). length p.trips * nat_abs x ≤ 1000 * MAX_DEAREST_SUM) (sym cost) scaled;
        room = room;
      }

  -- the arcs by their kinds
  lawful_arc : (kind : ArcKind) (a : Arc) → IsArcOf p l matching n.points kind a → IsLawfulArc p l n.points kind a
  lawful_arc (Trip i) a arc = arc
  lawful_arc Waiting a arc =
      let until = event_within a.to arc.until arc.to in
      let rate = rated-below p is l (arc.until.minute - arc.since.minute) 0 within (omega arith) (omega arith) in
      let all = rated-payable p is l (arc.until.minute - arc.since.minute) 0 within (omega arith) (omega arith) in (
        (arc.since, arc.from),
        (arc.until, arc.to),
        free a ((layer_of p l).per_minute * (arc.until.minute - arc.since.minute)) arc.cost (omega (arith, rate))
            (omega (arith, all)) arc.room,
      )
  lawful_arc Deadhead a arc =
      let until = event_within a.to arc.until arc.to in
      let match = first_of_match p l matching arc.by arc.since arc.until arc.matched in
      let by = way-within p is arc.since.stop.0 arc.until.stop.0 arc.by match.way_is in
      let rate =
      rated-below p is l (arc.until.minute - arc.since.minute) arc.by.metres within (omega arith) by.metres in
      let all =
      rated-payable p is l (arc.until.minute - arc.since.minute) arc.by.metres within (omega arith) by.metres in (
        (arc.since, arc.from),
        (arc.until, arc.to),
        free a (rated p l (arc.until.minute - arc.since.minute) arc.by.metres) arc.cost (omega (arith, rate)) all
            arc.room,
      )
  lawful_arc PullOut a arc =
      let by = way-within p is (layer_of p l).depot.0 arc.until.stop.0 arc.by arc.way_is in
      let rate = rated-below p is l arc.by.minutes arc.by.metres within (omega (arith, by.minutes)) by.metres in
      let fixed = (layer_of-IsLayer p is l within).fixed in
      let all =
      fixed-rated-payable p is l arc.by.minutes arc.by.metres within (omega (arith, by.minutes)) by.metres in (
        arc.from,
        (arc.until, arc.to),
        free a ((layer_of p l).fixed + rated p l arc.by.minutes arc.by.metres) arc.cost (omega (arith, rate, fixed))
            all arc.room,
      )
  lawful_arc PullIn a arc =
      let by = way-within p is arc.since.stop.0 (layer_of p l).depot.0 arc.by arc.way_is in
      let rate = rated-below p is l arc.by.minutes arc.by.metres within (omega (arith, by.minutes)) by.metres in
      let all = rated-payable p is l arc.by.minutes arc.by.metres within (omega (arith, by.minutes)) by.metres in (
        (arc.since, arc.from),
        arc.to,
        free a (rated p l arc.by.minutes arc.by.metres) arc.cost (omega (arith, rate)) all arc.room,
      )
  lawful_arc RestIn a arc =
      let by = way-within p is arc.since.stop.0 (layer_of p l).depot.0 arc.by arc.way_is in
      let rate = rated-below p is l arc.by.minutes arc.by.metres within (omega (arith, by.minutes)) by.metres in
      let all = rated-payable p is l arc.by.minutes arc.by.metres within (omega (arith, by.minutes)) by.metres in (
        (arc.since, arc.from),
        (arc.until, arc.to),
        free a (rated p l arc.by.minutes arc.by.metres) arc.cost (omega (arith, rate)) all arc.room,
      )
  lawful_arc RestWait a arc =
      ((arc.since, arc.from), (arc.until, arc.to), free a 0 arc.cost (omega arith) (omega arith) arc.room)
  lawful_arc RestOut a arc =
      let by = way-within p is (layer_of p l).depot.0 arc.until.stop.0 arc.by arc.after.way_is in
      let rate = rated-below p is l arc.by.minutes arc.by.metres within (omega (arith, by.minutes)) by.metres in
      let all = rated-payable p is l arc.by.minutes arc.by.metres within (omega (arith, by.minutes)) by.metres in (
        (arc.until.minute - arc.by.minutes, arc.from),
        (arc.until, arc.to),
        free a (rated p l arc.by.minutes arc.by.metres) arc.cost (omega (arith, rate)) all arc.room,
      )
  lawful_arc Return a arc = arc

  -- each trip that the layer may run has an arc
  arc_of_each : (i : ℕ) → MayRun p l i → (k : ℕ) × IsArcOfTrip n.kinds i k
  arc_of_each i may =
      let u = has_node n.points (point_of (departure p i)) (net.points.every (point_of (departure p i)) (inl
      (i, may, refl))) in
      let v = has_node n.points (point_of (arrival p i)) (net.points.every (point_of (arrival p i)) (inr
      (i, may, refl))) in
      let found = net.every (Trip (record { 0 = i })) (arc_of_trip p l i u.0 v.0)
      (record { may_run = may; from = u.1; to = v.1; cost = refl; room = refl }) in
      (found.0, (omega (arith, found.1, net.kinds), found.2))

  trip_arc : (i k : ℕ) → IsArcOfTrip n.kinds i k → IsTripArc p l n.points i (arc_of n.graph k)
  trip_arc i k is' =
      subst (λ (t : ArcKind). IsArcOf p l matching n.points t (arc_of n.graph k)) is'.1
      (net.only k (omega (arith, is'.0, net.kinds)))

  -- no arc of a trip stands before another
  not_before : (i j k : ℕ) → IsArcOfTrip n.kinds i j → IsArcOfTrip n.kinds i k → j < k → ⊥
  not_before i j k first second less =
      let a = trip_arc i j first in
      let b = trip_arc i k second in
      let from = same_node n.points net.points.ordered (arc_of n.graph j).from (arc_of n.graph k).from (point_of
      (departure p i))
      a.from b.from in
      let to = same_node n.points net.points.ordered (arc_of n.graph j).to (arc_of n.graph k).to (point_of
      (arrival p i))
      a.to b.to in
      let before = net.ordered j k less (omega (arith, second.0, net.kinds)) in
      let P : ArcKind → Type 0 = λ t. IsArcBefore (arc_of n.graph j) (kind_of n j) (arc_of n.graph k) t in
      let Q : ArcKind → Type 0 =
      λ t. IsArcBefore (arc_of n.graph j) t (arc_of n.graph k) (Trip (record { 0 = i })) in
      let trips = subst Q first.1 (subst P second.1 before) in
      elim trips [
        | inl down ↦ omega (arith, down, from)
        | inr same ↦ elim same.1 [
          | inl down ↦ omega (arith, down, to)
          | inr kinds ↦ elim kinds.1 [ inl rank ↦ omega (arith, rank) | inr number ↦ omega (arith, number.1) ]
        ]
      ]

  pub is_lawful : IsNet n.graph → IsLawful p l n
  is_lawful graph = record {
    layer = within;
    net = graph;
    labelled = record { each_arc = net.kinds; each_node = net.nodes };
    few_nodes = omega (arith, net.nodes, few_points p l n.points net.points);
    arcs = λ k inside. lawful_arc (kind_of n k) (arc_of n.graph k) (net.only k inside);
    each_trip = arc_of_each;
    one_arc = λ i j k first second. elim (cases_order j k) [
      | inl same ↦ same
      | inr apart ↦ elim apart [
        | inl up ↦ absurd (not_before i j k first second up)
        | inr down ↦ absurd (not_before i k j second first down)
      ]
    ];
    walks = walk_law p is l matching n net;
  }
