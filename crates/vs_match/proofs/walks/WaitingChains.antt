-- From an event to a later one at the same stop leads a walk that waits, and from a minute of the depot line to a
-- later one a walk that rests.
use Rattle.std.proofs.Common.{◌≡◌, ◌≢◌, ℕ, zero, suc, ◌+◌, ◌-◌, ◌*◌, ◌<◌, ◌≤◌, List, [], ◌∷◌, ◌++◌, length, get_or, Option, Some, None, refl, sym, ap, ◌∙◌, subst, inl, inr, arith, pos}
use Rattle.std.specs.Prelude.{ℤ, ◌+ℤ◌, Contains}
use Rattle.std.proofs.lemmas.Bool.{cases_eq, cases_lt}
use Rattle.std.proofs.lemmas.Int.{ints}
use Rattle.std.proofs.lemmas.List.{get_or_default}
use Rattle.vs_types.specs.declared.numbers.StopNo.{StopNo}
use Rattle.vs_layer.specs.declared.arc.Arc.{Arc}
use Rattle.vs_layer.specs.Graph.{Graph, arc_of}
use Rattle.vs_layer.specs.Walks.{Leads, path_cost}
use Rattle.vs_instance.specs.Problem.{Problem}
use Rattle.vs_instance.specs.Ways.{layer_of}
use Rattle.vs_match.specs.declared.event.Event.{Event}
use Rattle.vs_match.specs.declared.event.Point.{Point}
use Rattle.vs_match.specs.declared.arc_kind.ArcKind.{ArcKind}
use Rattle.vs_match.specs.declared.arc_kind.ArcKind.TheVariants.{Waiting, RestWait}
use Rattle.vs_match.specs.declared.matching.Matching.{Matching}
use Rattle.vs_match.specs.Events.{HasPoint, HasPlace, HasLine, point_of, line_point, stop_rank}
use Rattle.vs_match.specs.LayerGraph.{LayerGraph, IsNetOf, kind_of}
use Rattle.vs_match.specs.WalkLaw.{IsMove, IsWalk}
use Rattle.vs_match.proofs.order.Orders.{stop_of_rank}
use Rattle.vs_match.proofs.events.Places.{placed, place-at}

-- a list of arcs after another
pub leads-append : (g : Graph) (May : ℕ → Type 0) (ks js : List ℕ) (u v w : ℕ) → Leads g May u ks v
    → Leads g May v js w → Leads g May u (ks ++ js) w
leads-append g May [] js u v w first second = let P : ℕ → Type 0 = λ x. Leads g May x js w in subst P (sym first) second
leads-append g May (k ∷ ks) js u v w first second =
    (first.0, first.1, first.2, leads-append g May ks js (arc_of g k).to v w first.3 second)

pub path_cost-append : (g : Graph) (ks js : List ℕ) → path_cost g (ks ++ js) ≡ path_cost g ks +ℤ path_cost g js
path_cost-append g [] js = omega (arith, ints)
path_cost-append g (k ∷ ks) js = omega (arith, ints, path_cost-append g ks js)

-- a walk of this cost
pub record IsWalkOf (n : LayerGraph) (u v : ℕ) (cost : ℕ) : Type 0 where
  pub arcs : List ℕ
  pub walk : IsWalk n u arcs v
  pub cost_is : path_cost n.graph arcs ≡ pos cost

-- a walk and then another
pub walk_then : (n : LayerGraph) (u v w c d e : ℕ) → IsWalkOf n u v c → IsWalkOf n v w d → c + d ≡ e → IsWalkOf n u w e
walk_then n u v w c d e first second sum = record {
  arcs = first.arcs ++ second.arcs;
  walk = leads-append n.graph (λ k. IsMove (kind_of n k)) first.arcs second.arcs u v w first.walk second.walk;
  cost_is =
      path_cost-append n.graph first.arcs second.arcs ∙ ap (λ (x : ℤ). x +ℤ path_cost n.graph second.arcs) first.cost_is
      ∙ ap (λ (x : ℤ). pos c +ℤ x) second.cost_is ∙ ap pos sum;
}

-- an arc of this kind that is this one
abbrev pub Found : LayerGraph → ArcKind → Arc → Type 0
Found n kind a = (k : ℕ) × (k < length n.graph.arcs) × (kind_of n k ≡ kind) × (arc_of n.graph k ≡ a)

-- one arc as a walk
pub arc_walk : (n : LayerGraph) (kind : ArcKind) (a : Arc) (c : ℕ) → IsMove kind → a.cost ≡ pos c → Found n kind a
    → IsWalkOf n a.from a.to c
arc_walk n kind a c moves cost (k, within, is_kind, is) = record {
  arcs = k ∷ [];
  walk = (
    within,
    subst IsMove (sym is_kind) moves,
    ap (λ (x : Arc). x.from) is,
    ap (λ (x : Arc). x.to) is,
  );
  cost_is = ap (λ (x : Arc). x.cost +ℤ pos 0) is ∙ ap (λ (x : ℤ). x +ℤ pos 0) cost ∙ omega (arith, ints);
}

-- the stop with the number of another
pub same_stop : (a b : StopNo) → a.0 ≡ b.0 → a ≡ b
same_stop a b e = ap (λ (n : ℕ). record { 0 = n }) e

-- the next place at a stop, or on the depot line
record IsNext (points : List Point) (d : Point) (i : ℕ) (stop : Option StopNo) : Type 0 where
  pub k : ℕ
  pub after : i < k
  pub here : (get_or points k d).stop ≡ stop
  pub none_between : (m : ℕ) → i < m → m < k → (get_or points m d).stop ≢ stop

find_next : (points : List Point) (d : Point) (stop : Option StopNo) (gap i j : ℕ) → j ≡ i + suc gap
    → (get_or points j d).stop ≡ stop
    → (k : IsNext points d i stop) × (k.k ≤ j)
find_next points d stop zero i j at here =
    (record { k = j; after = omega arith; here = here; none_between = λ m up down. absurd (omega arith) }, omega arith)
find_next points d stop (suc gap) i j at here =
    elim (cases_eq (stop_rank (get_or points (i + 1) d).stop) (stop_rank stop)) [
      | inl same ↦ (
        record {
          k = i + 1;
          after = omega arith;
          here = stop_of_rank _ _ same;
          none_between =
              λ m up down. absurd (omega arith);
        },
        omega arith,
      )
      | inr other ↦
          let rest = find_next points d stop gap (i + 1) j (omega arith) here in (
            record {
              k = rest.0.k;
              after = omega (arith, rest.0.after);
              here = rest.0.here;
              none_between = λ m up down same. elim (cases_eq m (i + 1)) [
                | inl first ↦
                    other (ap (λ (x : ℕ). stop_rank (get_or points x d).stop) (sym first) ∙ ap stop_rank same)
                | inr later ↦ rest.0.none_between m (omega (arith, later)) down same
              ];
            },
            rest.1,
          )
    ]

minutes_of_both : (rate a b c : ℕ) → a ≤ b → b ≤ c
    → 1000 * (rate * (b - a)) + 1000 * (rate * (c - b)) ≡ 1000 * (rate * (c - a))
minutes_of_both rate a b c first second =
    let both : c - a ≡ (b - a) + (c - b) = omega arith in
    rw both (omega arith)

module _ (p : Problem) (l : ℕ) (matching : Matching) (n : LayerGraph) (net : IsNetOf p l matching n) (d : Point) where
  -- the point at a place
  abbrev at : ℕ → Point
  at k = get_or n.points k d

  minutes_up : (j k : ℕ) → j < k → k < length n.points → (at j).minute ≤ (at k).minute
  minutes_up j k less within =
      elim (net.points.ordered j k d less within) [ inl up ↦ omega (arith, up) | inr same ↦ omega (arith, same.0) ]

  later_at_stop : (j k : ℕ) → j < k → k < length n.points → (at j).stop ≡ (at k).stop → (at j).minute < (at k).minute
  later_at_stop j k less within same =
      elim (net.points.ordered j k d less within) [
        | inl up ↦ up
        | inr both ↦ absurd (omega (arith, both.1, ap stop_rank same))
      ]

  -- a point at a place, read by any default
  get-is : (k : ℕ) (x : Point) → k < length n.points → get_or n.points k x ≡ x → at k ≡ x
  get-is k x within is = get_or_default n.points k d x within ∙ is

  not_later : (k i : ℕ) (x : Point) → k ≤ i → i < length n.points → get_or n.points k x ≡ x → k < length n.points
      → (at i).minute < x.minute → ⊥
  not_later k i x le inside is within later =
      elim (cases_eq k i) [
        | inl same ↦
            omega (
              arith,
              later,
              ap (λ (y : Point). y.minute) (get-is k x within is),
              ap (λ (y : ℕ). (at y).minute) same,
            )
        | inr other ↦
            omega (
              arith,
              later,
              ap (λ (y : Point). y.minute) (get-is k x within is),
              minutes_up k i (omega (arith, le, other)) inside,
            )
      ]

  no_earlier : (k j : ℕ) (x : Point) → k ≤ j → j < length n.points → get_or n.points j x ≡ x → (at k).minute ≤ x.minute
  no_earlier k j x le within is =
      elim (cases_eq k j) [
        | inl same ↦
            omega (arith, ap (λ (y : Point). y.minute) (get-is j x within is), ap (λ (y : ℕ). (at y).minute) same)
        | inr other ↦
            omega (
              arith,
              ap (λ (y : Point). y.minute) (get-is j x within is),
              minutes_up k j (omega (arith, le, other)) within,
            )
      ]

  -- a later point at the stop is no earlier than the next one
  next_is_first : (i : ℕ) (stop : Option StopNo) (next : IsNext n.points d i stop) → next.k < length n.points
      → (x : Point) → Contains n.points x → x.stop ≡ stop → (at i).minute < x.minute → (at next.k).minute ≤ x.minute
  next_is_first i stop next within x has same later =
      let inside : i < length n.points = omega (arith, next.after, within) in
      elim (cases_lt has.0 next.k) [
        | inl before ↦ elim (cases_lt i has.0) [
          | inl after ↦
              absurd (next.none_between has.0 after before
              (ap (λ (y : Point). y.stop) (get-is has.0 x has.1 has.2) ∙ same))
          | inr not ↦ absurd (not_later has.0 i x not inside has.2 has.1 later)
        ]
        | inr from ↦ no_earlier next.k has.0 x from has.1 has.2
      ]

  -- a walk from each place at a stop to the next one there, where minutes cost so much
  abbrev Once : Option StopNo → ℕ → Type 0
  Once stop rate = (i : ℕ) → (at i).stop ≡ stop → (next : IsNext n.points d i stop) → next.k < length n.points
      → IsWalkOf n (i + 1) (next.k + 1) (1000 * (rate * ((at next.k).minute - (at i).minute)))

  stay_none : (rate i j : ℕ) → i ≡ j
      → IsWalkOf n (i + 1) (j + 1) (1000 * (rate * ((at j).minute - (at i).minute)))
  stay_none rate i j same =
      let z : (at j).minute - (at i).minute ≡ 0 = omega (arith, ap (λ (x : ℕ). (at x).minute) same) in
      record { arcs = []; walk = ap (λ (x : ℕ). x + 1) same; cost_is = rw z (ap pos (omega arith)) }

  -- the whole way from a place to a later one at its stop
  stay_places : (stop : Option StopNo) (rate : ℕ) → Once stop rate → (fuel i j : ℕ) → j ≤ i + fuel → i ≤ j
      → j < length n.points → (at i).stop ≡ stop → (at j).stop ≡ stop
      → IsWalkOf n (i + 1) (j + 1) (1000 * (rate * ((at j).minute - (at i).minute)))
  stay_places stop rate once zero i j near le within here there = stay_none rate i j (omega arith)
  stay_places stop rate once (suc fuel) i j near le within here there =
      elim (cases_lt i j) [
        | inr not ↦ stay_none rate i j (omega arith)
        | inl less ↦
            let found = find_next n.points d stop (j - i - 1) i j (omega arith) there in
            let next = found.0 in
            let inside : next.k < length n.points = omega (arith, found.1) in
            let up : (at next.k).minute ≤ (at j).minute = elim (cases_eq next.k j) [
              | inl last ↦ omega (arith, ap (λ (x : ℕ). (at x).minute) last)
              | inr other ↦ minutes_up next.k j (omega (arith, found.1, other)) within
            ] in
            let from = later_at_stop i next.k next.after inside (here ∙ sym next.here) in
            walk_then n (i + 1) (next.k + 1) (j + 1) _ _ _ (once i here next inside)
            (stay_places stop rate once fuel next.k j (omega (arith, next.after)) found.1 within next.here there)
            (minutes_of_both rate (at i).minute (at next.k).minute (at j).minute (omega (arith, from)) up)
      ]

  -- from a point to one at the same stop that is no earlier
  stay : (rate u v : ℕ) (a b : Point) → Once a.stop rate → HasPoint n.points u a → HasPoint n.points v b
      → a.stop ≡ b.stop → a.minute ≤ b.minute → IsWalkOf n u v (1000 * (rate * (b.minute - a.minute)))
  stay rate u v a b once from to same le =
      let x = placed n.points u a from in
      let y = placed n.points v b to in
      let minute-a = ap (λ (z : Point). z.minute) (x.point d) in
      let minute-b = ap (λ (z : Point). z.minute) (y.point d) in
      let here = ap (λ (z : Point). z.stop) (x.point d) in
      let there = ap (λ (z : Point). z.stop) (y.point d) ∙ sym same in
      let up : x.k ≤ y.k = elim (cases_lt y.k x.k) [
        | inl down ↦
            absurd (omega (arith, minute-a, minute-b, le, later_at_stop y.k x.k down x.within (there ∙ sym here)))
        | inr up ↦ up
      ] in
      let P : ℕ → Type 0 = λ c. IsWalkOf n u v (1000 * (rate * c)) in
      let Q : ℕ → Type 0 = λ w. IsWalkOf n w v (1000 * (rate * ((at y.k).minute - (at x.k).minute))) in
      let R : ℕ → Type 0 = λ w. IsWalkOf n (x.k + 1) w (1000 * (rate * ((at y.k).minute - (at x.k).minute))) in
      let span : (at y.k).minute - (at x.k).minute ≡ b.minute - a.minute = omega (arith, minute-a, minute-b) in
      subst P span
      (subst Q (sym x.node)
      (subst R (sym y.node) (stay_places a.stop rate once (y.k - x.k) x.k y.k (omega arith) up y.within here there)))

  -- the waiting arc from a place at a stop to the next one there
  wait_once : (stop : StopNo) → Once (Some stop) (layer_of p l).per_minute
  wait_once stop i here next within =
      let cost = 1000 * ((layer_of p l).per_minute * ((at next.k).minute - (at i).minute)) in
      let a : Arc = record { from = i + 1; to = next.k + 1; cost = pos cost; room = (layer_of p l).fleet } in
      let inside : i < length n.points = omega (arith, next.after, within) in
      let since : Event = record { minute = (at i).minute; stop = stop } in
      let until : Event = record { minute = (at next.k).minute; stop = stop } in
      let since-is : at i ≡ point_of since = λ t. record { minute = (at i).minute; stop = here t } in
      let until-is : at next.k ≡ point_of until = λ t. record { minute = (at next.k).minute; stop = next.here t } in
      arc_walk n Waiting a cost tt refl (net.every Waiting a (record {
        since = since;
        until = until;
        from = place-at n.points i (point_of since) d inside since-is;
        to = place-at n.points next.k (point_of until) d within until-is;
        same_stop = refl;
        later = later_at_stop i next.k next.after within (here ∙ sym next.here);
        next = λ e is same later.
            next_is_first i (Some stop) next within (point_of e) (net.points.every (point_of e) is)
            (ap (λ (s : StopNo). Some s) same) later;
        cost = refl;
        room = refl;
      }))

  -- the arc on which a vehicle rests from a minute of the depot line to the next one
  rest_once : Once None 0
  rest_once i here next within =
      let a : Arc = record { from = i + 1; to = next.k + 1; cost = pos 0; room = (layer_of p l).fleet } in
      let inside : i < length n.points = omega (arith, next.after, within) in
      let since-is : at i ≡ line_point (at i).minute = λ t. record { minute = (at i).minute; stop = here t } in
      let until-is : at next.k ≡ line_point (at next.k).minute =
      λ t. record { minute = (at next.k).minute; stop = next.here t } in
      let nothing : 0 ≡ 1000 * (0 * ((at next.k).minute - (at i).minute)) = omega arith in
      let P : ℕ → Type 0 = λ c. IsWalkOf n (i + 1) (next.k + 1) c in
      subst P nothing (arc_walk n RestWait a 0 tt refl (net.every RestWait a (record {
        since = (at i).minute;
        until = (at next.k).minute;
        from = place-at n.points i (line_point (at i).minute) d inside since-is;
        to = place-at n.points next.k (line_point (at next.k).minute) d within until-is;
        later = later_at_stop i next.k next.after within (here ∙ sym next.here);
        next = λ minute is later.
            next_is_first i None next within (line_point minute) (net.points.every (line_point minute) is) refl later;
        cost = refl;
        room = refl;
      })))

  -- from an event to one at the same stop that is no earlier leads a walk that waits
  pub wait : (u v : ℕ) (a b : Event) → HasPlace n.points u a → HasPlace n.points v b → a.stop ≡ b.stop
      → a.minute ≤ b.minute
      → IsWalkOf n u v (1000 * ((layer_of p l).per_minute * (b.minute - a.minute)))
  wait u v a b from to same le =
      stay (layer_of p l).per_minute u v (point_of a) (point_of b) (wait_once a.stop) from to
      (ap (λ (s : StopNo). Some s) same) le

  -- from a minute of the depot line to one that is no earlier leads a walk that rests, at no cost
  pub rest_on : (u v since until : ℕ) → HasLine n.points u since → HasLine n.points v until → since ≤ until
      → IsWalkOf n u v 0
  rest_on u v since until from to le =
      let P : ℕ → Type 0 = λ c. IsWalkOf n u v c in
      let nothing : 1000 * (0 * (until - since)) ≡ 0 = omega arith in
      subst P nothing (stay 0 u v (line_point since) (line_point until) rest_once from to refl le)
