-- The walk law of a layer's net, from what the net is.
use Rattle.std.proofs.Common.{◌≡◌, ℕ, ◌+◌, ◌-◌, ◌*◌, ◌≤◌, min, Bool, true, false, if◌then◌else◌, List, [], ◌∷◌, Option, Some, None, refl, sym, ap, ◌∙◌, subst, inl, inr, arith, pos}
use Rattle.std.specs.Prelude.{◌⊎◌, ℤ, ◌+ℤ◌, ◌≤ℤ◌, nat_le, option_map, option_and_then}
use Rattle.std.proofs.lemmas.Bool.{cases_eq, cases_lt, leb-true, leb-false, le-leb}
use Rattle.std.proofs.lemmas.Int.{ints}
use Rattle.std.proofs.lemmas.Option.{none-some}
use Rattle.vs_layer.specs.declared.arc.Arc.{Arc}
use Rattle.vs_layer.specs.Graph.{Graph, arc_of}
use Rattle.vs_layer.specs.Walks.{path_cost, IsLeastCost}
use Rattle.vs_instance.specs.declared.way.Way.{Way}
use Rattle.vs_instance.specs.Problem.{Problem}
use Rattle.vs_instance.specs.Ways.{way, no_way, way_between, way_out, way_in, layer_of}
use Rattle.vs_instance.specs.Pieces.{rated, out_piece, rest_by, rest_piece, no_more_than, link_piece, in_piece}
use Rattle.vs_instance.proofs.CallerLemmas.{IsRest, rest_taken}
use Rattle.vs_instance.specs.Instance.{IsInstance}
use Rattle.vs_match.specs.declared.event.Event.{Event}
use Rattle.vs_match.specs.declared.arc_kind.ArcKind.{ArcKind}
use Rattle.vs_match.specs.declared.arc_kind.ArcKind.TheVariants.{Deadhead, PullOut, PullIn}
use Rattle.vs_match.specs.declared.matching.Matching.{Matching}
use Rattle.vs_match.specs.Events.{departure, arrival, MayRun, HasPlace, last_node, point_of}
use Rattle.vs_match.specs.NetArcs.{IsArcOf, at_scale}
use Rattle.vs_match.specs.LayerGraph.{LayerGraph, IsNetOf}
use Rattle.vs_match.specs.WalkLaw.{IsWalk, IsWayOut, IsWayIn, HasWalkLaw}
use Rattle.vs_match.proofs.walks.ClosedWays.{some-same, way-own, way-through}
use Rattle.vs_match.proofs.events.Places.{has_node}
use Rattle.vs_match.proofs.walks.WalkBounds.{IsStraight, IsByDepot, IsBound, walk_bound, then_out, rated-≤, first_of_match}
use Rattle.vs_match.proofs.walks.WaitingChains.{IsWalkOf, same_stop, walk_then, arc_walk, wait, path_cost-append}
use Rattle.vs_match.proofs.walks.Matched.{IsMatchBetween, match_between}
use Rattle.vs_match.proofs.walks.Rested.{rest_walk}

-- no list costs less than one that costs so much, where each costs a whole number that is no less
least-from : (g : Graph) (Such : List ℕ → Type 0) (c : ℕ) (arcs : List ℕ) → Such arcs → path_cost g arcs ≡ pos c
    → ((ks : List ℕ) → Such ks → (d : ℕ) × (path_cost g ks ≡ pos d) × (c ≤ d)) → IsLeastCost g Such (Some (pos c))
least-from g Such c arcs is cost others = (
  (arcs, is, cost),
  λ ks such. let other =
      others ks such in subst (λ (x : ℤ). pos c ≤ℤ x) (sym other.1) (omega (arith, ints, other.2)),
)

minutes_of_all : (rate rest a s c b : ℕ) → a ≤ s → s ≤ c → c ≤ b
    → 1000 * (rate * (s - a)) + (1000 * (rate * (c - s) + rest) + 1000 * (rate * (b - c)))
    ≡ 1000 * (rate * (b - a) + rest)
minutes_of_all rate rest a s c b first second third =
    let all : b - a ≡ (s - a) + ((c - s) + (b - c)) = omega arith in
    rw all (omega arith)

module _ (p : Problem) (is : IsInstance p) (l : ℕ) (matching : Matching) (n : LayerGraph)
    (net : IsNetOf p l matching n) where
  module _ (i j u v : ℕ) (may : MayRun p l i) (may' : MayRun p l j) (from : HasPlace n.points u (arrival p i))
      (to : HasPlace n.points v (departure p j)) where
    abbrev a : Event
    a = arrival p i

    abbrev b : Event
    b = departure p j

    abbrev between : List ℕ → Type 0
    between ks = IsWalk n u ks v

    bound_of : (ks : List ℕ) → between ks → IsBound p l n.graph a b ks
    bound_of ks walk = walk_bound p is l matching n net b ks u v a walk from to

    wait_only : (w : Way) → a.stop.0 ≡ b.stop.0 → way p a.stop.0 b.stop.0 ≡ Some w → a.minute + w.minutes ≤ b.minute
        → IsWalkOf n u v (1000 * rated p l (b.minute - a.minute) w.metres)
    wait_only w same way_is in_time =
        let own : no_way ≡ w =
        some-same no_way w (sym (way-own p a.stop.0) ∙ ap (λ (s : ℕ). way p a.stop.0 s) same ∙ way_is) in
        let metres : w.metres ≡ 0 = ap (λ (x : Way). x.metres) (sym own) in
        let P : ℕ → Type 0 = λ c. IsWalkOf n u v c in
        let cost : 1000 * ((layer_of p l).per_minute * (b.minute - a.minute))
        ≡ 1000 * rated p l (b.minute - a.minute) w.metres = rw metres (omega arith) in
        subst P cost (wait p l matching n net (point_of a) u v a b from to (same_stop _ _ same) (omega
        (arith, in_time)))

    by_match : (w : Way) → IsMatchBetween p l matching w a b
        → IsWalkOf n u v (1000 * rated p l (b.minute - a.minute) w.metres)
    by_match w m =
        let first = first_of_match p l matching w m.since m.until m.matched in
        let s = has_node n.points (point_of m.since) (net.points.every (point_of m.since) (inr first.arrives)) in
        let t = has_node n.points (point_of m.until) (net.points.every (point_of m.until) (inl first.departs)) in
        let cost = 1000 * rated p l (m.until.minute - m.since.minute) w.metres in
        let arc : Arc = record { from = s.0; to = t.0; cost = pos cost; room = (layer_of p l).fleet } in
        let drive = arc_walk n Deadhead arc cost tt refl (net.every Deadhead arc (record {
          since = m.since;
          until = m.until;
          by = w;
          from = s.1;
          to = t.1;
          matched = m.matched;
          cost = refl;
          room = refl;
        })) in
        let before = wait p l matching n net (point_of a) u s.0 a m.since from s.1 m.same_start m.no_earlier in
        let after = wait p l matching n net (point_of a) t.0 v m.until b t.1 to m.same_end m.no_later in
        walk_then n u s.0 v _ _ _ before (walk_then n s.0 t.0 v _ _ _ drive after refl)
        (minutes_of_all (layer_of p l).per_minute
        ((layer_of p l).per_metre * w.metres) a.minute m.since.minute m.until.minute b.minute
        m.no_earlier (omega (arith, first.in_time)) m.no_later)

    attained : (w : Way) → way p a.stop.0 b.stop.0 ≡ Some w → a.minute + w.minutes ≤ b.minute
        → IsWalkOf n u v (1000 * rated p l (b.minute - a.minute) w.metres)
    attained w way_is in_time =
        elim (cases_eq a.stop.0 b.stop.0) [
          | inl same ↦ wait_only w same way_is in_time
          | inr apart ↦ by_match w (match_between p is l matching w i j may may' apart way_is in_time)
        ]

    -- straight in time, at the cost of that way
    abbrev straight : Way → ℕ
    straight w = rated p l (b.minute - a.minute) w.metres

    -- a walk shows that the trips connect
    in_time_of : (w : Way) → way p a.stop.0 b.stop.0 ≡ Some w → (ks : List ℕ) → between ks
        → a.minute + w.minutes ≤ b.minute
    in_time_of w way_is ks walk = elim (bound_of ks walk).goes [
      | inl s ↦
          let same = ap (λ (x : Way). x.minutes) (some-same s.by w (sym s.way_is ∙ way_is)) in
          omega (arith, s.in_time, same)
      | inr r ↦
          let through =
          way-through p is a.stop.0 (layer_of p l).depot.0 b.stop.0 r.back r.out r.back_is r.out_is in
          let same = ap (λ (x : Way). x.minutes) (some-same through.by w (sym through.way_is ∙ way_is)) in
          omega (arith, r.in_time, through.minutes, same)
    ]

    -- and that there is a way
    way_of : (ks : List ℕ) → between ks → (w : Way) × (way p a.stop.0 b.stop.0 ≡ Some w)
    way_of ks walk = elim (bound_of ks walk).goes [
      | inl s ↦ (s.by, s.way_is)
      | inr r ↦
          let through =
          way-through p is a.stop.0 (layer_of p l).depot.0 b.stop.0 r.back r.out r.back_is r.out_is in
          (through.by, through.way_is)
    ]

    -- a walk that goes straight costs no less than the way
    no_less_straight : (w : Way) → way p a.stop.0 b.stop.0 ≡ Some w → (cost : ℕ) → IsStraight p l a b cost
        → 1000 * straight w ≤ cost
    no_less_straight w way_is cost s =
        let same = some-same s.by w (sym s.way_is ∙ way_is) in
        subst (λ (x : Way). 1000 * rated p l (b.minute - a.minute) x.metres ≤ cost) same s.at_least

    -- by the depot, where a rest costs so much
    by_rest : (rest : ℕ) → IsRest p l i j rest → IsWalkOf n u v (1000 * rest)
    by_rest rest r =
        let P : ℕ → Type 0 = λ c. IsWalkOf n u v (1000 * c) in
        subst P (sym r.costs)
        (rest_walk p l matching n net a b u v (i, may, refl) (j, may', refl) from to r.stay r.back r.out r.stay_is
        r.back_is r.out_is r.time)

    no_less_by_depot : (rest : ℕ) → IsRest p l i j rest → (cost : ℕ) → IsByDepot p l a b cost → 1000 * rest ≤ cost
    no_less_by_depot rest r cost d =
        let back = some-same d.back r.back (sym d.back_is ∙ r.back_is) in
        let out = some-same d.out r.out (sym d.out_is ∙ r.out_is) in
        let least = d.at_least in
        let costs = r.costs in
        let backs = ap (λ (w : Way). rated p l w.minutes w.metres) back in
        let outs = ap (λ (w : Way). rated p l w.minutes w.metres) out in
        omega (arith, least, costs, backs, outs)

    -- a walk by the depot shows that there is a rest
    rest_of : (cost : ℕ) → IsByDepot p l a b cost → (rest : ℕ) × (rest_piece p l i j ≡ Some rest)
    rest_of cost d =
        let c = rated p l d.back.minutes d.back.metres + rated p l d.out.minutes d.out.metres in
        let fits : nat_le (a.minute + d.back.minutes + d.stay + d.out.minutes) b.minute ≡ true =
        le-leb _ _ d.in_time in (
          c,
          ap (λ o. option_and_then (λ stay. option_and_then (λ back. option_and_then (λ out.
              rest_by p l i j stay back out) (way_out p l j)) (way_in p l i)) o) d.stay_is
              ∙ ap (λ o. option_and_then (λ back. option_and_then (λ out.
              rest_by p l i j d.stay back out) (way_out p l j)) o) d.back_is
              ∙ ap (λ o. option_and_then (λ out. rest_by p l i j d.stay d.back out) o) d.out_is
              ∙ ap (λ t. if t then Some c else None) fits,
        )

    -- the least cost, where there is no rest, and where there is one
    least_without : (w : Way) → way p a.stop.0 b.stop.0 ≡ Some w → a.minute + w.minutes ≤ b.minute
        → rest_piece p l i j ≡ None → IsLeastCost n.graph between (Some (pos (1000 * straight w)))
    least_without w way_is early none =
        let there = attained w way_is early in
        least-from n.graph between (1000 * straight w) there.arcs there.walk there.cost_is
        (λ ks walk.
        let bound = bound_of ks walk in (
          bound.cost,
          bound.cost_is,
          elim bound.goes [
            | inl s ↦ no_less_straight w way_is bound.cost s
            | inr d ↦ let rest = rest_of bound.cost d in absurd (none-some rest.0 (sym none ∙ rest.1))
          ],
        ))

    cheaper_walk : (w : Way) (rest : ℕ) → way p a.stop.0 b.stop.0 ≡ Some w → a.minute + w.minutes ≤ b.minute
        → IsRest p l i j rest → IsWalkOf n u v (1000 * min (straight w) rest)
    cheaper_walk w rest way_is early r =
        let P : ℕ → Type 0 = λ c. IsWalkOf n u v (1000 * c) in
        elim (cases_lt rest (straight w)) [
          | inl less ↦
              let least : rest ≡ min (straight w) rest = omega (arith, less) in subst P least (by_rest rest r)
          | inr more ↦
              let least : straight w ≡ min (straight w) rest = omega (arith, more) in
              subst P least (attained w way_is early)
        ]

    least_with : (w : Way) (rest : ℕ) → way p a.stop.0 b.stop.0 ≡ Some w → a.minute + w.minutes ≤ b.minute
        → rest_piece p l i j ≡ Some rest
        → IsLeastCost n.graph between (Some (pos (1000 * min (straight w) rest)))
    least_with w rest way_is early some =
        let r = rest_taken p l i j rest some in
        let there = cheaper_walk w rest way_is early r in
        least-from n.graph between (1000 * min (straight w) rest) there.arcs there.walk there.cost_is
        (λ ks walk.
        let bound = bound_of ks walk in (
          bound.cost,
          bound.cost_is,
          elim bound.goes [
            | inl s ↦ let least = no_less_straight w way_is bound.cost s in omega (arith, least)
            | inr d ↦ let least = no_less_by_depot rest r bound.cost d in omega (arith, least)
          ],
        ))

    link_in_time : (w : Way) → way p a.stop.0 b.stop.0 ≡ Some w → (t : Bool)
        → nat_le (a.minute + w.minutes) b.minute ≡ t → (o : Option ℕ) → rest_piece p l i j ≡ o
        → IsLeastCost n.graph between
        (option_map at_scale (option_map (no_more_than o) (if t then Some (straight w) else None)))
    link_in_time w way_is false late o rest = λ ks walk.
        omega (arith, leb-false _ _ late, in_time_of w way_is ks walk)
    link_in_time w way_is true early None rest = least_without w way_is (leb-true _ _ early) rest
    link_in_time w way_is true early (Some r) rest = least_with w r way_is (leb-true _ _ early) rest

    link_by : (o : Option Way) → way p a.stop.0 b.stop.0 ≡ o
        → IsLeastCost n.graph between (option_map at_scale (option_map (no_more_than (rest_piece p l i j))
        (option_and_then
        (λ w. if nat_le (a.minute + w.minutes) b.minute then Some (straight w) else None) o)))
    link_by None way_is = λ ks walk.
        let there = way_of ks walk in none-some there.0 (sym way_is ∙ there.1)
    link_by (Some w) way_is =
        link_in_time w way_is (nat_le (a.minute + w.minutes) b.minute) refl (rest_piece p l i j) refl

    pub link : IsLeastCost n.graph between (option_map at_scale (link_piece p l i j))
    link = link_by (way_between p i j) refl

  module _ (j v : ℕ) (may : MayRun p l j) (to : HasPlace n.points v (departure p j)) where
    abbrev goal : Event
    goal = departure p j

    abbrev depot : ℕ
    depot = (layer_of p l).depot.0

    abbrev fixed : ℕ
    fixed = (layer_of p l).fixed

    -- what a way out shows: a pull-out that is no dearer
    record IsOut (ks : List ℕ) : Type 0 where
      pub by : Way
      pub way_is : way p depot goal.stop.0 ≡ Some by
      pub in_time : by.minutes ≤ goal.minute
      pub cost : ℕ
      pub cost_is : path_cost n.graph ks ≡ pos cost
      pub at_least : 1000 * (fixed + rated p l by.minutes by.metres) ≤ cost

    out_of : (ks : List ℕ) → IsWayOut n v ks → IsOut ks
    out_of [] none = absurd none
    out_of (k ∷ walk) out =
        let pull =
        subst (λ (t : ArcKind). IsArcOf p l matching n.points t (arc_of n.graph k)) out.1 (net.only k out.0) in
        let rest = walk_bound p is l matching n net goal walk (arc_of n.graph k).to v pull.until out.2 pull.to to in
        let on = then_out p is l goal pull.until pull.by pull.way_is pull.in_time rest.cost rest.goes in
        record {
          by = on.out;
          way_is = on.out_is;
          in_time = omega (arith, on.in_time);
          cost = 1000 * (fixed + rated p l pull.by.minutes pull.by.metres) + rest.cost;
          cost_is = ap (λ (x : ℤ). x +ℤ path_cost n.graph walk) pull.cost
              ∙ ap (λ (x : ℤ). pos (1000 * (fixed + rated p l pull.by.minutes pull.by.metres)) +ℤ x) rest.cost_is;
          at_least = omega (arith, on.at_least);
        }

    out_in_time : (w : Way) → way p depot goal.stop.0 ≡ Some w → (t : Bool) → nat_le w.minutes goal.minute ≡ t
        → IsLeastCost n.graph (IsWayOut n v)
        (option_map at_scale (if t then Some (fixed + rated p l w.minutes w.metres) else None))
    out_in_time w way_is false late = λ ks out.
        let o = out_of ks out in
        let same = ap (λ (x : Way). x.minutes) (some-same o.by w (sym o.way_is ∙ way_is)) in
        omega (arith, leb-false _ _ late, o.in_time, same)
    out_in_time w way_is true early =
        let c = 1000 * (fixed + rated p l w.minutes w.metres) in
        let arc : Arc = record { from = 0; to = v; cost = pos c; room = (layer_of p l).fleet } in
        let found = net.every PullOut arc (record {
          until = goal;
          by = w;
          from = refl;
          to = to;
          departs = (j, may, refl);
          way_is = way_is;
          in_time = leb-true _ _ early;
          cost = refl;
          room = refl;
        }) in
        least-from n.graph (IsWayOut n v) c (found.0 ∷ []) (found.1, found.2, ap (λ (x : Arc). x.to) found.3)
        (ap (λ (x : Arc). x.cost +ℤ pos 0) found.3 ∙ omega (arith, ints))
        (λ ks out.
        let o = out_of ks out in
        let same = some-same o.by w (sym o.way_is ∙ way_is) in (
          o.cost,
          o.cost_is,
          subst (λ (x : Way). 1000 * (fixed + rated p l x.minutes x.metres) ≤ o.cost) same o.at_least,
        ))

    out_by : (o : Option Way) → way p depot goal.stop.0 ≡ o
        → IsLeastCost n.graph (IsWayOut n v) (option_map at_scale (option_and_then
        (λ w. if nat_le w.minutes goal.minute then Some (fixed + rated p l w.minutes w.metres) else None) o))
    out_by None way_is = λ ks out. none-some (out_of ks out).by (sym way_is ∙ (out_of ks out).way_is)
    out_by (Some w) way_is = out_in_time w way_is (nat_le w.minutes goal.minute) refl

    pub pull_out : IsLeastCost n.graph (IsWayOut n v) (option_map at_scale (out_piece p l j))
    pull_out = out_by (way_out p l j) refl

  module _ (i u : ℕ) (may : MayRun p l i) (from : HasPlace n.points u (arrival p i)) where
    abbrev start : Event
    start = arrival p i

    abbrev home : ℕ
    home = (layer_of p l).depot.0

    -- what a way in shows: a pull-in that is no dearer
    record IsIn (ks : List ℕ) : Type 0 where
      pub by : Way
      pub way_is : way p start.stop.0 home ≡ Some by
      pub cost : ℕ
      pub cost_is : path_cost n.graph ks ≡ pos cost
      pub at_least : 1000 * rated p l by.minutes by.metres ≤ cost

    -- back to the depot from where a walk leads
    record IsBack (cost : ℕ) : Type 0 where
      pub by : Way
      pub way_is : way p start.stop.0 home ≡ Some by
      pub at_least : 1000 * rated p l by.minutes by.metres ≤ cost

    back_of : (c : Event) (w : Way) → way p c.stop.0 home ≡ Some w → (cost : ℕ)
        → IsStraight p l start c cost ⊎ IsByDepot p l start c cost
        → IsBack (cost + 1000 * rated p l w.minutes w.metres)
    back_of c w way_is cost (inl first) =
        let through = way-through p is start.stop.0 c.stop.0 home first.by w first.way_is way_is in
        let rates =
        rated-≤ p l through.by.minutes
        (c.minute - start.minute) w.minutes through.by.metres first.by.metres w.metres
        (omega (arith, through.minutes, first.in_time)) through.metres in
        record { by = through.by; way_is = through.way_is; at_least = omega (arith, rates, first.at_least) }
    back_of c w way_is cost (inr first) =
        record { by = first.back; way_is = first.back_is; at_least = omega (arith, first.at_least) }

    in_of : (ks : List ℕ) → IsWayIn n u ks → IsIn ks
    in_of ks way_in' =
        let last = way_in'.last in
        let pull =
        subst (λ (t : ArcKind). IsArcOf p l matching n.points t (arc_of n.graph last)) way_in'.pull_in
        (net.only last way_in'.of_net) in
        let first =
        walk_bound p is l matching n net pull.since way_in'.walk u
        (arc_of n.graph last).from start way_in'.is_walk from pull.from in
        let back = back_of pull.since pull.by pull.way_is first.cost first.goes in
        record {
          by = back.by;
          way_is = back.way_is;
          cost = first.cost + 1000 * rated p l pull.by.minutes pull.by.metres;
          cost_is = ap (path_cost n.graph) way_in'.is ∙ path_cost-append n.graph way_in'.walk (last ∷ [])
              ∙ ap (λ (x : ℤ). x +ℤ ((arc_of n.graph last).cost +ℤ pos 0)) first.cost_is
              ∙ ap (λ (x : ℤ). pos first.cost +ℤ (x +ℤ pos 0)) pull.cost ∙ omega (arith, ints);
          at_least = back.at_least;
        }

    in_by : (o : Option Way) → way p start.stop.0 home ≡ o
        → IsLeastCost n.graph (IsWayIn n u) (option_map at_scale (option_map (λ w. rated p l w.minutes w.metres) o))
    in_by None way_is = λ ks way_in'. none-some (in_of ks way_in').by (sym way_is ∙ (in_of ks way_in').way_is)
    in_by (Some w) way_is =
        let c = 1000 * rated p l w.minutes w.metres in
        let arc : Arc = record { from = u; to = last_node n.points; cost = pos c; room = (layer_of p l).fleet } in
        let found = net.every PullIn arc (record {
          since = start;
          by = w;
          from = from;
          to = refl;
          arrives = (i, may, refl);
          way_is = way_is;
          cost = refl;
          room = refl;
        }) in
        least-from n.graph (IsWayIn n u) c (found.0 ∷ [])
        (record {
          walk = [];
          last = found.0;
          is = refl;
          of_net = found.1;
          pull_in = found.2;
          is_walk =
              sym (ap (λ (x : Arc). x.from) found.3);
        })
        (ap (λ (x : Arc). x.cost +ℤ pos 0) found.3 ∙ omega (arith, ints))
        (λ ks way_in'.
        let o = in_of ks way_in' in
        let same = some-same o.by w (sym o.way_is ∙ way_is) in
        (o.cost, o.cost_is, subst (λ (x : Way). 1000 * rated p l x.minutes x.metres ≤ o.cost) same o.at_least))

    pub pull_in : IsLeastCost n.graph (IsWayIn n u) (option_map at_scale (in_piece p l i))
    pull_in = in_by (way_in p l i) refl

  -- the walk law
  pub walk_law : HasWalkLaw p l n
  walk_law =
      record { outs = pull_out; ins = pull_in; links = λ i j u v may may' from to. link i j u v may may' from to }
