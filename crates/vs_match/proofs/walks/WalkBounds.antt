-- What a walk shows of the two events that it joins: there is a way between them that fits, straight or by the depot,
-- and the walk costs no less than it.
use Rattle.std.proofs.Common.{◌≡◌, ℕ, ◌+◌, ◌-◌, ◌*◌, ◌≤◌, List, [], ◌∷◌, Some, refl, sym, ap, ◌∙◌, subst, inl, inr, arith, pos}
use Rattle.std.specs.Prelude.{◌⊎◌, ℤ, ◌+ℤ◌}
use Rattle.std.proofs.Math.Nat.{mul-le-mul_left}
use Rattle.vs_layer.specs.Graph.{Graph, arc_of}
use Rattle.vs_layer.specs.Walks.{path_cost}
use Rattle.vs_instance.specs.declared.way.Way.{Way}
use Rattle.vs_instance.specs.Problem.{Problem}
use Rattle.vs_instance.specs.Ways.{way, no_way, layer_of}
use Rattle.vs_instance.specs.Instance.{IsInstance}
use Rattle.vs_instance.specs.Pieces.{rated}
use Rattle.vs_match.specs.declared.event.Event.{Event}
use Rattle.vs_match.specs.declared.arc_kind.ArcKind.{ArcKind}
use Rattle.vs_match.specs.declared.arc_kind.ArcKind.TheVariants.{Trip, Waiting, Deadhead, PullOut, PullIn, RestIn, RestWait, RestOut, Return}
use Rattle.vs_match.specs.declared.matching.Matching.{Matching}
use Rattle.vs_match.specs.declared.matching.Matching.TheVariants.{First, Latest}
use Rattle.vs_match.specs.Events.{HasPlace, HasLine}
use Rattle.vs_match.specs.Matches.{IsMatch, IsFirstMatch}
use Rattle.vs_match.specs.NetArcs.{IsArcOf}
use Rattle.vs_match.specs.LayerGraph.{LayerGraph, IsNetOf, kind_of}
use Rattle.vs_match.specs.WalkLaw.{IsMove, IsWalk}
use Rattle.vs_match.proofs.walks.ClosedWays.{way-own, way-through}
use Rattle.vs_match.proofs.events.Places.{same_event, same_line, at_stop_or_line}

-- a match by either rule is a first match
pub first_of_match : (p : Problem) (l : ℕ) (matching : Matching) (w : Way) (a b : Event)
    → IsMatch p l matching w a b → IsFirstMatch p l w a b
first_of_match p l First w a b is = is
first_of_match p l Latest w a b is = is.is_match

-- no more minutes and metres than two parts have cost no more than these
pub rated-≤ : (p : Problem) (l m m1 m2 d d1 d2 : ℕ) → m ≤ m1 + m2 → d ≤ d1 + d2
    → rated p l m d ≤ rated p l m1 d1 + rated p l m2 d2
rated-≤ p l m m1 m2 d d1 d2 minutes metres =
    omega (arith, mul-le-mul_left (layer_of p l).per_metre metres, mul-le-mul_left (layer_of p l).per_minute minutes)

-- straight from event a to event b, for this cost or less
pub record IsStraight (p : Problem) (l : ℕ) (a b : Event) (cost : ℕ) : Type 0 where
  pub by : Way
  pub way_is : way p a.stop.0 b.stop.0 ≡ Some by
  pub in_time : a.minute + by.minutes ≤ b.minute
  pub at_least : 1000 * rated p l (b.minute - a.minute) by.metres ≤ cost

-- by the depot, where the vehicle rests
pub record IsByDepot (p : Problem) (l : ℕ) (a b : Event) (cost : ℕ) : Type 0 where
  pub stay : ℕ
  pub back : Way
  pub out : Way
  pub stay_is : (layer_of p l).stay ≡ Some stay
  pub back_is : way p a.stop.0 (layer_of p l).depot.0 ≡ Some back
  pub out_is : way p (layer_of p l).depot.0 b.stop.0 ≡ Some out
  pub in_time : a.minute + back.minutes + stay + out.minutes ≤ b.minute
  pub at_least : 1000 * (rated p l back.minutes back.metres + rated p l out.minutes out.metres) ≤ cost

-- from a minute of the depot line
pub record IsFromLine (p : Problem) (l minute : ℕ) (b : Event) (cost : ℕ) : Type 0 where
  pub out : Way
  pub out_is : way p (layer_of p l).depot.0 b.stop.0 ≡ Some out
  pub in_time : minute + out.minutes ≤ b.minute
  pub at_least : 1000 * rated p l out.minutes out.metres ≤ cost

-- what holds of a walk from event a to event b, and of one from a minute of the depot line
pub record IsBound (p : Problem) (l : ℕ) (g : Graph) (a b : Event) (ks : List ℕ) : Type 0 where
  pub cost : ℕ
  pub cost_is : path_cost g ks ≡ pos cost
  pub goes : IsStraight p l a b cost ⊎ IsByDepot p l a b cost

pub record IsLineBound (p : Problem) (l : ℕ) (g : Graph) (minute : ℕ) (b : Event) (ks : List ℕ) : Type 0 where
  pub cost : ℕ
  pub cost_is : path_cost g ks ≡ pos cost
  pub goes : IsFromLine p l minute b cost

module _ (p : Problem) (is : IsInstance p) (l : ℕ) (b : Event) where
  abbrev depot : ℕ
  depot = (layer_of p l).depot.0

  -- a way from event a to event c that fits, and what follows
  then_straight : (a c : Event) (by : Way) → way p a.stop.0 c.stop.0 ≡ Some by → a.minute + by.minutes ≤ c.minute
      → (cost : ℕ) → IsStraight p l c b cost
      → IsStraight p l a b (1000 * rated p l (c.minute - a.minute) by.metres + cost)
  then_straight a c by way_is in_time cost rest =
      let through = way-through p is a.stop.0 c.stop.0 b.stop.0 by rest.by way_is rest.way_is in
      let rates =
      rated-≤ p l (b.minute - a.minute) (c.minute - a.minute)
      (b.minute - c.minute) through.by.metres by.metres rest.by.metres
      (omega (arith, rest.in_time)) through.metres in
      record {
        by = through.by;
        way_is = through.way_is;
        in_time = omega (arith, rest.in_time, through.minutes);
        at_least = omega (arith, rest.at_least, rates);
      }

  then_by_depot : (a c : Event) (by : Way) → way p a.stop.0 c.stop.0 ≡ Some by → a.minute + by.minutes ≤ c.minute
      → (cost : ℕ) → IsByDepot p l c b cost
      → IsByDepot p l a b (1000 * rated p l (c.minute - a.minute) by.metres + cost)
  then_by_depot a c by way_is in_time cost rest =
      let through = way-through p is a.stop.0 c.stop.0 depot by rest.back way_is rest.back_is in
      let rates =
      rated-≤ p l through.by.minutes (c.minute - a.minute)
      rest.back.minutes through.by.metres by.metres rest.back.metres
      (omega (arith, through.minutes)) through.metres in
      record {
        stay = rest.stay;
        back = through.by;
        out = rest.out;
        stay_is = rest.stay_is;
        back_is = through.way_is;
        out_is = rest.out_is;
        in_time = omega (arith, rest.in_time, through.minutes);
        at_least = omega (arith, rest.at_least, rates);
      }

  pub then_goes : (a c : Event) (by : Way) → way p a.stop.0 c.stop.0 ≡ Some by → a.minute + by.minutes ≤ c.minute
      → (cost : ℕ) → IsStraight p l c b cost ⊎ IsByDepot p l c b cost
      → IsStraight p l a b (1000 * rated p l (c.minute - a.minute) by.metres + cost)
      ⊎ IsByDepot p l a b (1000 * rated p l (c.minute - a.minute) by.metres + cost)
  then_goes a c by way_is in_time cost (inl rest) = inl (then_straight a c by way_is in_time cost rest)
  then_goes a c by way_is in_time cost (inr rest) = inr (then_by_depot a c by way_is in_time cost rest)

  -- out of the depot to event c, and on to b
  pub then_out : (c : Event) (by : Way) → way p depot c.stop.0 ≡ Some by → by.minutes ≤ c.minute → (cost : ℕ)
      → IsStraight p l c b cost ⊎ IsByDepot p l c b cost
      → IsFromLine p l (c.minute - by.minutes) b (1000 * rated p l by.minutes by.metres + cost)
  then_out c by way_is in_time cost (inl rest) =
      let through = way-through p is depot c.stop.0 b.stop.0 by rest.by way_is rest.way_is in
      let rates =
      rated-≤ p l through.by.minutes by.minutes
      (b.minute - c.minute) through.by.metres by.metres rest.by.metres
      (omega (arith, through.minutes, rest.in_time)) through.metres in
      record {
        out = through.by;
        out_is = through.way_is;
        in_time = omega (arith, through.minutes, rest.in_time, in_time);
        at_least = omega (arith, rest.at_least, rates);
      }
  then_out c by way_is in_time cost (inr rest) = record {
    out = rest.out;
    out_is = rest.out_is;
    in_time = omega (arith, rest.in_time);
    at_least = omega (arith, rest.at_least);
  }

  -- into the depot from event a, and on from minute m of its line, once the stay is over
  pub then_in : (a : Event) (by : Way) (stay m : ℕ) → (layer_of p l).stay ≡ Some stay → way p a.stop.0 depot ≡ Some by
      → a.minute + by.minutes + stay ≤ m → (cost : ℕ) → IsFromLine p l m b cost
      → IsByDepot p l a b (1000 * rated p l by.minutes by.metres + cost)
  then_in a by stay m stay_is way_is rested cost rest = record {
    stay = stay;
    back = by;
    out = rest.out;
    stay_is = stay_is;
    back_is = way_is;
    out_is = rest.out_is;
    in_time = omega (arith, rested, rest.in_time);
    at_least = omega (arith, rest.at_least);
  }

module _ (p : Problem) (is : IsInstance p) (l : ℕ) (matching : Matching) (n : LayerGraph)
    (net : IsNetOf p l matching n) (b : Event) where
  -- what a walk from node u shows, whatever stands there
  abbrev Bounds : ℕ → List ℕ → Type 0
  Bounds u ks = ((a : Event) → HasPlace n.points u a → IsBound p l n.graph a b ks)
      × ((m : ℕ) → HasLine n.points u m → IsLineBound p l n.graph m b ks)

  none_bound : (a : Event) → a ≡ b → IsBound p l n.graph a b []
  none_bound a same =
      let z : b.minute - a.minute ≡ 0 = omega (arith, ap (λ (e : Event). e.minute) same) in
      record {
        cost = 0;
        cost_is = refl;
        goes = inl (record {
          by = no_way;
          way_is = ap (λ (e : Event). way p a.stop.0 e.stop.0) (sym same) ∙ way-own p a.stop.0;
          in_time = omega (arith, ap (λ (e : Event). e.minute) same);
          at_least = rw z (omega arith);
        });
      }

  -- the cost of an arc, and of a walk from where it leads
  cost_more : (k : ℕ) (ks : List ℕ) (c d : ℕ) → (arc_of n.graph k).cost ≡ pos c → path_cost n.graph ks ≡ pos d
      → path_cost n.graph (k ∷ ks) ≡ pos (c + d)
  cost_more k ks c d one rest =
      ap (λ (x : ℤ). x +ℤ path_cost n.graph ks) one ∙ ap (λ (x : ℤ). pos c +ℤ x) rest

  -- the arc waits or drives from event a to event c
  move_bounds : (k : ℕ) (ks : List ℕ) (a c : Event) (by : Way) → HasPlace n.points (arc_of n.graph k).from a
      → way p a.stop.0 c.stop.0 ≡ Some by → a.minute + by.minutes ≤ c.minute
      → (arc_of n.graph k).cost ≡ pos (1000 * rated p l (c.minute - a.minute) by.metres)
      → IsBound p l n.graph c b ks → Bounds (arc_of n.graph k).from (k ∷ ks)
  move_bounds k ks a c by at way_is in_time cost rest = (
    λ e at_e.
        let P : Event → Type 0 = λ x. IsBound p l n.graph x b (k ∷ ks) in
        subst P (same_event n.points (arc_of n.graph k).from a e at at_e) (record {
          cost = 1000 * rated p l (c.minute - a.minute) by.metres + rest.cost;
          cost_is = cost_more k ks _ rest.cost cost rest.cost_is;
          goes = then_goes p is l b a c by way_is in_time rest.cost rest.goes;
        }),
    λ m line. absurd (at_stop_or_line n.points (arc_of n.graph k).from a m at line),
  )

  -- the arc leads from a minute of the depot line
  line_bounds : (k : ℕ) (ks : List ℕ) (m : ℕ) → HasLine n.points (arc_of n.graph k).from m
      → IsLineBound p l n.graph m b (k ∷ ks) → Bounds (arc_of n.graph k).from (k ∷ ks)
  line_bounds k ks m line bound = (
    λ e at. absurd (at_stop_or_line n.points (arc_of n.graph k).from e m at line),
    λ i line_i.
        let P : ℕ → Type 0 = λ x. IsLineBound p l n.graph x b (k ∷ ks) in
        subst P (same_line n.points (arc_of n.graph k).from m i line line_i) bound,
  )

  step_bounds : (k : ℕ) (ks : List ℕ) (kind : ArcKind) → IsMove kind
      → IsArcOf p l matching n.points kind (arc_of n.graph k) → Bounds (arc_of n.graph k).to ks
      → Bounds (arc_of n.graph k).from (k ∷ ks)
  step_bounds k ks (Trip i) moves arc rest = absurd moves
  step_bounds k ks Waiting moves arc rest =
      let stops = ap (λ s. s.0) arc.same_stop in
      let way_is = ap (λ (s : ℕ). way p arc.since.stop.0 s) (sym stops) ∙ way-own p arc.since.stop.0 in
      move_bounds k ks arc.since arc.until no_way arc.from way_is (omega (arith, arc.later))
      (arc.cost ∙ ap pos (omega arith)) (rest.0 arc.until arc.to)
  step_bounds k ks Deadhead moves arc rest =
      let first = first_of_match p l matching arc.by arc.since arc.until arc.matched in
      move_bounds k ks arc.since arc.until arc.by arc.from first.way_is first.in_time arc.cost (rest.0 arc.until arc.to)
  step_bounds k ks PullOut moves arc rest = absurd moves
  step_bounds k ks PullIn moves arc rest = absurd moves
  step_bounds k ks RestIn moves arc rest = (
    λ e at.
        let on = rest.1 arc.until arc.to in
        let P : Event → Type 0 = λ x. IsBound p l n.graph x b (k ∷ ks) in
        subst P (same_event n.points (arc_of n.graph k).from arc.since e arc.from at) (record {
          cost = 1000 * rated p l arc.by.minutes arc.by.metres + on.cost;
          cost_is = cost_more k ks _ on.cost arc.cost on.cost_is;
          goes = inr (then_in p is l b arc.since arc.by arc.stay arc.until arc.stay_is arc.way_is arc.rested on.cost
              on.goes);
        }),
    λ m line. absurd (at_stop_or_line n.points (arc_of n.graph k).from arc.since m arc.from line),
  )
  step_bounds k ks RestWait moves arc rest =
      let on = rest.1 arc.until arc.to in
      let later = arc.later in
      line_bounds k ks arc.since arc.from (record {
        cost = 0 + on.cost;
        cost_is = cost_more k ks 0 on.cost arc.cost on.cost_is;
        goes = record {
          out = on.goes.out;
          out_is = on.goes.out_is;
          in_time = omega (arith, later, on.goes.in_time);
          at_least = omega (arith, on.goes.at_least);
        };
      })
  step_bounds k ks RestOut moves arc rest =
      let on = rest.0 arc.until arc.to in
      line_bounds k ks (arc.until.minute - arc.by.minutes) arc.from (record {
        cost = 1000 * rated p l arc.by.minutes arc.by.metres + on.cost;
        cost_is = cost_more k ks _ on.cost arc.cost on.cost_is;
        goes = then_out p is l b arc.until arc.by arc.after.way_is arc.after.in_time on.cost on.goes;
      })
  step_bounds k ks Return moves arc rest = absurd moves

  bounds : (ks : List ℕ) (u v : ℕ) → IsWalk n u ks v → HasPlace n.points v b → Bounds u ks
  bounds [] u v same at = (
    λ a at_a. none_bound a
        (let P : ℕ → Type 0 = λ w. HasPlace n.points w a in same_event n.points v a b (subst P same at_a) at),
    λ m line. absurd
        (let P : ℕ → Type 0 = λ w. HasLine n.points w m in at_stop_or_line n.points v b m at (subst P same line)),
  )
  bounds (k ∷ ks) u v walk at =
      let P : ℕ → Type 0 = λ w. Bounds w (k ∷ ks) in
      subst P walk.2
      (step_bounds k ks (kind_of n k) walk.1 (net.only k walk.0) (bounds ks (arc_of n.graph k).to v walk.3 at))

  pub walk_bound : (ks : List ℕ) (u v : ℕ) (a : Event) → IsWalk n u ks v → HasPlace n.points u a
      → HasPlace n.points v b → IsBound p l n.graph a b ks
  walk_bound ks u v a walk from to = (bounds ks u v walk to).0 a from
