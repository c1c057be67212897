-- The arcs of all kinds together, in order, are a layer's net.
use Rattle.std.proofs.Common.{◌≡◌, ℕ, ◌+◌, ◌-◌, ◌<◌, ◌≤◌, List, [], ◌∷◌, ◌++◌, map, length, get_or, Option, Some, None, Result, Ok, Err, refl, sym, ap, ◌∙◌, subst, inl, inr, arith, pos}
use Rattle.std.specs.Prelude.{◌⊎◌, ◌↔◌, AllPairs, Contains, IfOk, IfSome}
use Rattle.std.specs.List.{All}
use Rattle.std.specs.declared.cmp.Ordering.TheVariants.{Less}
use Rattle.std.proofs.lemmas.Bool.{cases_lt}
use Rattle.std.proofs.lemmas.List.{get_or_default, length-map}
use Rattle.std.proofs.Math.ListN.{get_or-map}
use Rattle.std.proofs.lemmas.Option.{MatchOption-at_some, none-some}
use Rattle.vs_layer.specs.declared.arc.Arc.{Arc}
use Rattle.vs_layer.specs.Ends.{arc_at}
use Rattle.vs_layer.specs.Graph.{Graph, IsRightArc, AllRight}
use Rattle.vs_instance.specs.declared.way.Way.{Way}
use Rattle.vs_instance.specs.Problem.{Problem}
use Rattle.vs_instance.specs.Ways.{way, layer_of, no_trip}
use Rattle.vs_instance.specs.Instance.{IsInstance, IsStay, IsDeadhead as IsWay}
use Rattle.vs_instance.proofs.CallerLemmas.{layer_of-IsLayer, way-other}
use Rattle.vs_match.specs.declared.event.Point.{Point}
use Rattle.vs_match.specs.declared.arc_kind.ArcKind.{ArcKind}
use Rattle.vs_match.specs.declared.arc_kind.ArcKind.TheVariants.{Trip, Waiting, Deadhead, PullOut, PullIn, RestIn, RestWait, RestOut, Return}
use Rattle.vs_match.specs.declared.arc_kind.LayerArc.{LayerArc}
use Rattle.vs_match.specs.declared.matching.Matching.{Matching}
use Rattle.vs_match.specs.Events.{ArePoints, HasPoint, IsBefore, last_node, point_of, line_point}
use Rattle.vs_match.specs.NetArcs.{IsArcOf, IsArcBefore, rank, trip_number}
use Rattle.vs_match.specs.Adds.{Adds, AreArcs, arc_in}
use Rattle.vs_match.specs.ArcsOf.{return_of}
use Rattle.vs_match.specs.LayerGraph.{LayerGraph, IsNetOf, kind_at}
use Rattle.vs_match.specs.Parts.{IsTrip, IsWaiting, IsDeadhead, IsRestWait, IsReturn}
use Rattle.vs_match.specs.declared.depot_drives.DepotDrive.TheVariants as drive
use Rattle.vs_match.specs.DepotDrives.{IsDepotDrive}
use Rattle.vs_match.specs.TripIndex.{IsBelow}
use Rattle.vs_match.proofs.events.Adding.{adds-both, adds-one, contains-none}
use Rattle.vs_match.proofs.order.ArcOrder.{arc_cmp, arc_before}
use Rattle.vs_match.proofs.events.Places.{placed, nodes_in_order}
use Rattle.vs_match.proofs.walks.ClosedWays.{some-same}
use Rattle.vs_match.proofs.walks.WalkBounds.{first_of_match}

module _ (p : Problem) (l : ℕ) (matching : Matching) (points : List Point) where
  -- an arc of any kind
  abbrev pub IsAny : LayerArc → Type 0
  IsAny x =
      ((((IsTrip p l points x ⊎ IsWaiting p l points x) ⊎ IsDeadhead p l matching points x)
      ⊎ IsDepotDrive p l points x) ⊎ IsRestWait p l points x)
      ⊎ IsReturn p l points x

  abbrev IsOne : LayerArc → Type 0
  IsOne x = IsArcOf p l matching points x.kind (arc_in x)

  of_kind : (x : LayerArc) (kind : ArcKind) → x.kind ≡ kind → IsArcOf p l matching points kind (arc_in x) → IsOne x
  of_kind x kind is arc = subst (λ (t : ArcKind). IsArcOf p l matching points t (arc_in x)) (sym is) arc

  one_of_any : (x : LayerArc) → IsAny x → IsOne x
  one_of_any x (inl (inl (inl (inl (inl (i, kind, arc)))))) = of_kind x (Trip i) kind arc
  one_of_any x (inl (inl (inl (inl (inr (kind, arc)))))) = of_kind x Waiting kind arc
  one_of_any x (inl (inl (inl (inr (kind, arc))))) = of_kind x Deadhead kind arc
  one_of_any x (inl (inl (inr (drive.PullOut, (kind, arc))))) = of_kind x PullOut kind arc
  one_of_any x (inl (inl (inr (drive.PullIn, (kind, arc))))) = of_kind x PullIn kind arc
  one_of_any x (inl (inl (inr (drive.RestIn, (kind, arc))))) = of_kind x RestIn kind arc
  one_of_any x (inl (inl (inr (drive.RestOut, (kind, arc))))) = of_kind x RestOut kind arc
  one_of_any x (inl (inr (kind, arc))) = of_kind x RestWait kind arc
  one_of_any x (inr (kind, arc)) = of_kind x Return kind arc

  any_of_kind : (x : LayerArc) (kind : ArcKind) → x.kind ≡ kind → IsArcOf p l matching points kind (arc_in x) → IsAny x
  any_of_kind x (Trip i) is arc = inl (inl (inl (inl (inl (i, is, arc)))))
  any_of_kind x Waiting is arc = inl (inl (inl (inl (inr (is, arc)))))
  any_of_kind x Deadhead is arc = inl (inl (inl (inr (is, arc))))
  any_of_kind x PullOut is arc = inl (inl (inr (drive.PullOut, (is, arc))))
  any_of_kind x PullIn is arc = inl (inl (inr (drive.PullIn, (is, arc))))
  any_of_kind x RestIn is arc = inl (inl (inr (drive.RestIn, (is, arc))))
  any_of_kind x RestWait is arc = inl (inr (is, arc))
  any_of_kind x RestOut is arc = inl (inl (inr (drive.RestOut, (is, arc))))
  any_of_kind x Return is arc = inr (is, arc)

  pub adds_return : (arcs : List LayerArc)
      → Adds (IsReturn p l points) arcs (arcs ++ return_of p l (last_node points) ∷ [])
  adds_return arcs =
      adds-one (IsReturn p l points) arcs (return_of p l (last_node points))
      (refl, record { from = refl; to = refl; cost = refl; room = refl })
      (λ x (kind, arc). λ i. record {
        from = sym arc.from i;
        to = sym arc.to i;
        kind = sym kind i;
        cost =
            sym arc.cost i;
        room = sym arc.room i;
      })

  -- six times more arcs, and all are there
  pub adds_all : (a b c d e f : List LayerArc) → Adds (IsTrip p l points) [] a → Adds (IsWaiting p l points) a b
      → Adds (IsDeadhead p l matching points) b c → Adds (IsDepotDrive p l points) c d
      → Adds (IsRestWait p l points) d e → Adds (IsReturn p l points) e f → Adds IsAny [] f
  adds_all a b c d e f trips waiting deadheads drives rest_waits back =
      let T = IsTrip p l points in
      let W = IsWaiting p l points in
      let D = IsDeadhead p l matching points in
      let O = IsDepotDrive p l points in
      let R = IsRestWait p l points in
      let one = adds-both T W [] a b trips waiting in
      let two = adds-both (λ x. T x ⊎ W x) D [] b c one deadheads in
      let three = adds-both (λ x. (T x ⊎ W x) ⊎ D x) O [] c d two drives in
      let four = adds-both (λ x. ((T x ⊎ W x) ⊎ D x) ⊎ O x) R [] d e three rest_waits in
      adds-both (λ x. (((T x ⊎ W x) ⊎ D x) ⊎ O x) ⊎ R x) (IsReturn p l points) [] e f four back

  pub are_arcs : (found arcs : List LayerArc) → Adds IsAny [] found
      → ((x : LayerArc) → Contains arcs x ↔ Contains found x)
      → AllPairs (λ a b. arc_cmp a b ≡ Less) arcs → AreArcs p l matching points arcs
  are_arcs found arcs adds same rising =
      let only : (x : LayerArc) → Contains arcs x → IsOne x = λ x has. elim ((adds x).0 ((same x).0 has)) [
        | inl none ↦ absurd (contains-none x none)
        | inr any ↦ one_of_any x any
      ] in
      record {
        only = only;
        every = λ x one. (same x).1 ((adds x).1 (inr (any_of_kind x x.kind refl one)));
        ordered = λ j k d less within.
            arc_before p l matching points (get_or arcs j d) (get_or arcs k d)
            (only _ (j, omega (arith, less, within), get_or_default arcs j _ d (omega (arith, less, within))))
            (only _ (k, within, get_or_default arcs k _ d within))
            (rising j k d less within);
      }

-- how an arc lies in its net: the return arc goes from the last node to the first, every other from a lower to a higher
-- node
abbrev Lies : List Point → ArcKind → Arc → Type 0
Lies points kind a =
    ((kind ≡ Return) × (a.from ≡ last_node points) × (a.to ≡ 0)) ⊎ ((a.from < a.to) × (a.to ≤ last_node points))

-- deadheads take a minute at least
takes_time : (p : Problem) → IsInstance p → (k s : ℕ) (w : Way) → ¬ (k ≡ s) → way p k s ≡ Some w → 1 ≤ w.minutes
takes_time p is k s w apart way_is =
    (MatchOption-at_some _ (IsWay p k s) w (sym (way-other p k s apart) ∙ way_is) (is.deadheads k s)).some_minutes

below_last : (points : List Point) (v : ℕ) (x : Point) → HasPoint points v x → (0 < v) × (v < last_node points)
below_last points v y at = let x = placed points v y at in (omega (arith, x.node), omega (arith, x.node, x.within))

-- a stay takes a minute at least
stays_long : (p : Problem) → IsInstance p → (l : ℕ) → l < length p.layers → (stay : ℕ)
    → (layer_of p l).stay ≡ Some stay → 1 ≤ stay
stays_long p is l within stay is_stay = by_stay (layer_of p l).stay is_stay (layer_of-IsLayer p is l within).stay
  where
    by_stay : (o : Option ℕ) → o ≡ Some stay → IfSome o IsStay → 1 ≤ stay
    by_stay None none limits = absurd (none-some stay none)
    by_stay (Some s) some limits = omega (arith, limits.0, some-same s stay some)

lies : (p : Problem) → IsInstance p → (l : ℕ) → l < length p.layers → (matching : Matching) (points : List Point)
    → ArePoints p l points → (kind : ArcKind) (a : Arc)
    → IsArcOf p l matching points kind a → Lies points kind a
lies p is l layer matching points are (Trip i) a arc =
    let up = nodes_in_order points are.ordered a.from a.to _ _ arc.from arc.to
    (inl (is.trips i.0 no_trip arc.may_run.0).lasts) in
    inr (up, omega (arith, (below_last points a.to _ arc.to).1))
lies p is l layer matching points are Waiting a arc =
    inr (
      nodes_in_order points are.ordered a.from a.to _ _ arc.from arc.to (inl arc.later),
      omega (arith, (below_last points a.to _ arc.to).1),
    )
lies p is l layer matching points are Deadhead a arc =
    let first = first_of_match p l matching arc.by arc.since arc.until arc.matched in
    let minute = takes_time p is arc.since.stop.0 arc.until.stop.0 arc.by first.apart first.way_is in
    inr (
      nodes_in_order points are.ordered a.from a.to _ _ arc.from arc.to
          (inl (omega (arith, minute, first.in_time))),
      omega (arith, (below_last points a.to _ arc.to).1),
    )
lies p is l layer matching points are PullOut a arc =
    let to = below_last points a.to _ arc.to in
    inr (omega (arith, arc.from, to.0), omega (arith, to.1))
lies p is l layer matching points are PullIn a arc =
    inr (omega (arith, arc.to, (below_last points a.from _ arc.from).1), omega (arith, arc.to))
lies p is l layer matching points are RestIn a arc =
    let stay = stays_long p is l layer arc.stay arc.stay_is in
    let since : Point = point_of arc.since in
    let rested = arc.rested in
    inr (
      nodes_in_order points are.ordered a.from a.to since (line_point arc.until) arc.from arc.to
          (inl (omega (arith, rested, stay))),
      omega (arith, (below_last points a.to _ arc.to).1),
    )
lies p is l layer matching points are RestWait a arc =
    inr (
      nodes_in_order points are.ordered a.from a.to (line_point arc.since) (line_point arc.until) arc.from arc.to
          (inl arc.later),
      omega (arith, (below_last points a.to _ arc.to).1),
    )
lies p is l layer matching points are RestOut a arc =
    let left = arc.until.minute - arc.by.minutes in
    let before : IsBefore (line_point left) (point_of arc.until) = elim (cases_lt left arc.until.minute) [
      | inl up ↦ inl up
      | inr not ↦ inr (omega (arith, not), omega arith)
    ] in
    inr (
      nodes_in_order points are.ordered a.from a.to (line_point left) (point_of arc.until) arc.from arc.to before,
      omega (arith, (below_last points a.to _ arc.to).1),
    )
lies p is l layer matching points are Return a arc = inl (refl, arc.from, arc.to)

-- no arc comes after the return arc
none_after : (points : List Point) (s t : ArcKind) (a b : Arc) → s ≡ Return → a.from ≡ last_node points → a.to ≡ 0
    → Lies points t b → IsArcBefore a s b t → ⊥
none_after points s t a b is from to (inl (is', from', to')) (inl less) = omega (arith, less, from, from')
none_after points s t a b is from to (inl (is', from', to')) (inr (same, inl less)) = omega (arith, less, to')
none_after points s t a b is from to (inl (is', from', to')) (inr (same, inr (same', inl kinds))) =
    omega (arith, kinds, ap rank is, ap rank is')
none_after points s t a b is from to (inl (is', from', to')) (inr (same, inr (same', inr (kinds, numbers)))) =
    omega (arith, numbers, ap trip_number is, ap trip_number is')
none_after points s t a b is from to (inr (up, within)) (inl less) = omega (arith, less, from, up, within)
none_after points s t a b is from to (inr (up, within)) (inr (same, rest)) = omega (arith, same, from, up, within)

abbrev kind_in : LayerArc → ArcKind
kind_in x = x.kind

abbrev no_layer_arc : LayerArc
no_layer_arc = record { from = 0; to = 0; kind = Return; cost = pos 0; room = 0 }

module _ (p : Problem) (is : IsInstance p) (l : ℕ) (layer : l < length p.layers) (matching : Matching)
    (points : List Point) (are_points : ArePoints p l points)
    (arcs : List LayerArc) (are : AreArcs p l matching points arcs) where
  abbrev item : ℕ → LayerArc
  item k = get_or arcs k no_layer_arc

  has_item : (k : ℕ) → k < length arcs → Contains arcs (item k)
  has_item k within = (k, within, get_or_default arcs k _ no_layer_arc within)

  item_lies : (k : ℕ) → k < length arcs → Lies points (item k).kind (arc_in (item k))
  item_lies k within =
      lies p is l layer matching points are_points (item k).kind (arc_in (item k)) (are.only (item k)
      (has_item k within))

  returns : Contains arcs (return_of p l (last_node points))
  returns = are.every (return_of p l (last_node points)) (record { from = refl; to = refl; cost = refl; room = refl })

  pub some_arc : 0 < length arcs
  some_arc = omega (arith, returns.1)

  return_item : item returns.0 ≡ return_of p l (last_node points)
  return_item = get_or_default arcs returns.0 no_layer_arc _ returns.1 ∙ returns.2

  right_item : (k : ℕ) → k < length arcs → Lies points (item k).kind (arc_in (item k))
      → IsRightArc (length points + 2) (length arcs) k (arc_in (item k))
  right_item k within (inl (kind, from, to)) = record {
    from = omega (arith, from);
    to = omega (arith, to);
    goes_on = record {
      forward =
          λ more. absurd
          (none_after points (item k).kind (item (k + 1)).kind (arc_in (item k)) (arc_in (item (k + 1))) kind from to
          (item_lies (k + 1) more) (are.ordered k (k + 1) no_layer_arc (omega arith) more));
      from_last = λ last. omega (arith, from);
      to_first = λ last. to;
    };
  }
  right_item k within (inr (up, bound)) = record {
    from = omega (arith, up, bound);
    to = omega (arith, bound);
    goes_on = record {
      forward = λ more. up;
      from_last = λ last. absurd (not_last k within up bound last);
      to_first = λ last. absurd (not_last k within up bound last);
    };
  } where
    not_last : (k : ℕ) → k < length arcs → (item k).from < (item k).to → (item k).to ≤ last_node points
        → k + 1 ≡ length arcs → ⊥
    not_last k within up bound last =
        let r = returns.0 in
        let kind = ap kind_in return_item in
        let from = ap (λ (x : LayerArc). x.from) return_item in
        let to = ap (λ (x : LayerArc). x.to) return_item in
        elim (cases_lt r k) [
          | inl before ↦
              none_after points (item r).kind (item k).kind (arc_in (item r)) (arc_in (item k)) kind from to
              (item_lies k within)
              (are.ordered r k no_layer_arc before within)
          | inr after ↦
              let same : r ≡ k = omega (arith, after, returns.1, last) in
              omega (arith, up, bound, from, ap (λ (m : ℕ). (item m).from) same)
        ]

  arc-at : (k : ℕ) → k < length arcs → arc_at (map arc_in arcs) k ≡ arc_in (item k)
  arc-at k within = get_or-map arc_in arcs k no_layer_arc

  kind-at : (k : ℕ) → k < length arcs → kind_at (map kind_in arcs) k ≡ (item k).kind
  kind-at k within = get_or-map kind_in arcs k no_layer_arc

  -- the arcs stand as they should
  pub all_right : AllRight (length points + 2) (map arc_in arcs)
  all_right k within =
      let inside : k < length arcs = omega (arith, within, length-map arcs arc_in) in
      let P : Arc → Type 0 = λ a. IsRightArc (length points + 2) (length arcs) k a in
      let Q : ℕ → Type 0 = λ n. IsRightArc (length points + 2) n k (arc_at (map arc_in arcs) k) in
      subst Q (sym (length-map arcs arc_in))
      (subst P (sym (arc-at k inside)) (right_item k inside (item_lies k inside)))

  below : (kind : ArcKind) (a : Arc) → IsArcOf p l matching points kind a → IsBelow (length p.trips) kind
  below (Trip i) a arc = arc.may_run.0
  below Waiting a arc = tt
  below Deadhead a arc = tt
  below PullOut a arc = tt
  below PullIn a arc = tt
  below RestIn a arc = tt
  below RestWait a arc = tt
  below RestOut a arc = tt
  below Return a arc = tt

  pub all_below : All (λ x. IsBelow (length p.trips) x.kind) arcs
  all_below k d within =
      below (get_or arcs k d).kind (arc_in (get_or arcs k d))
      (are.only (get_or arcs k d) (k, within, get_or_default arcs k _ d within))

  -- the whole is the layer's net
  pub is_net : IsNetOf p l matching
      (record {
        graph = record { nodes = length points + 2; arcs = map arc_in arcs };
        kinds =
            map kind_in arcs;
        points = points;
      })
  is_net = record {
    points = are_points;
    nodes = refl;
    kinds = length-map arcs kind_in ∙ sym (length-map arcs arc_in);
    only = λ k within.
        let inside : k < length arcs = omega (arith, within, length-map arcs arc_in) in
        let P : Arc → Type 0 = λ a. IsArcOf p l matching points (kind_at (map kind_in arcs) k) a in
        let Q : ArcKind → Type 0 = λ t. IsArcOf p l matching points t (arc_in (item k)) in
        subst P (sym (arc-at k inside)) (subst Q (sym (kind-at k inside)) (are.only (item k) (has_item k inside)));
    every = λ kind a arc.
        let x : LayerArc = record { from = a.from; to = a.to; kind = kind; cost = a.cost; room = a.room } in
        let has = are.every x arc in
        let inside = has.1 in
        let at = get_or_default arcs has.0 no_layer_arc x inside ∙ has.2 in (
          has.0,
          omega (arith, inside, length-map arcs arc_in),
          kind-at has.0 inside ∙ ap kind_in at,
          arc-at has.0 inside ∙ ap arc_in at,
        );
    ordered = λ j k less within.
        let inside : k < length arcs = omega (arith, within, length-map arcs arc_in) in
        let inside' : j < length arcs = omega (arith, less, inside) in
        let ordered = are.ordered j k no_layer_arc less inside in
        let P : Arc → Type 0 =
        λ a. IsArcBefore a (kind_at (map kind_in arcs) j) (arc_at (map arc_in arcs) k)
        (kind_at (map kind_in arcs) k) in
        let Q : ArcKind → Type 0 =
        λ s. IsArcBefore (arc_in (item j)) s (arc_at (map arc_in arcs) k) (kind_at (map kind_in arcs) k) in
        let R : Arc → Type 0 = λ b. IsArcBefore (arc_in (item j)) (item j).kind b (kind_at (map kind_in arcs) k) in
        let S : ArcKind → Type 0 = λ t. IsArcBefore (arc_in (item j)) (item j).kind (arc_in (item k)) t in
        subst P (sym (arc-at j inside'))
        (subst Q (sym (kind-at j inside'))
        (subst R (sym (arc-at k inside)) (subst S (sym (kind-at k inside)) ordered)));
  }

-- a net of these parts, where there is one
pub net_of_parts : {E : Type 0} (P : LayerGraph → Type 0) (graph : Graph) (kinds : List ArcKind)
    (points : List Point) (r : Result LayerGraph E)
    → IfOk r (λ n. n.graph ≡ graph) → IfOk r (λ n. n.kinds ≡ kinds) → IfOk r (λ n. n.points ≡ points)
    → P (record { graph = graph; kinds = kinds; points = points }) → IfOk r P
net_of_parts P graph kinds points (Ok n) a b c holds =
    let is : record { graph = graph; kinds = kinds; points = points } ≡ n =
    λ i. record { graph = sym a i; kinds = sym b i; points = sym c i } in
    subst P is holds
net_of_parts P graph kinds points (Err e) a b c holds = tt
