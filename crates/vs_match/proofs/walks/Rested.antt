-- From an arrival to a departure before which the vehicle can rest leads a walk by the depot.
use Rattle.std.proofs.Common.{◌≡◌, ℕ, ◌+◌, ◌-◌, ◌*◌, ◌<◌, ◌≤◌, List, length, get_or, Option, Some, None, refl, sym, ap, ◌∙◌, subst, arith, pos}
use Rattle.std.specs.Prelude.{◌⊎◌, IsSome}
use Rattle.std.proofs.lemmas.Bool.{cases_eq}
use Rattle.std.proofs.lemmas.List.{get_or_default}
use Rattle.vs_layer.specs.declared.arc.Arc.{Arc}
use Rattle.vs_instance.specs.declared.way.Way.{Way}
use Rattle.vs_instance.specs.Problem.{Problem}
use Rattle.vs_instance.specs.Ways.{way, layer_of}
use Rattle.vs_instance.specs.Pieces.{rated}
use Rattle.vs_match.specs.declared.event.Event.{Event}
use Rattle.vs_match.specs.declared.event.Point.{Point}
use Rattle.vs_match.specs.declared.arc_kind.ArcKind.TheVariants.{RestIn, RestOut}
use Rattle.vs_match.specs.declared.matching.Matching.{Matching}
use Rattle.vs_match.specs.Events.{DepartsAt, ArrivesAt, IsLineMinute, IsWayAfterRest, HasPlace, HasLine, line_point, stop_rank}
use Rattle.vs_match.specs.LayerGraph.{LayerGraph, IsNetOf}
use Rattle.vs_match.proofs.order.Orders.{stop_of_rank}
use Rattle.vs_match.proofs.events.LeastTrips.{least_of, decide_both, decide_le}
use Rattle.vs_match.proofs.events.Places.{place-at, has_node}
use Rattle.vs_match.proofs.walks.WaitingChains.{IsWalkOf, walk_then, arc_walk, rest_on}

-- point k is on the depot line, from this minute on
abbrev IsLineFrom : List Point → Point → ℕ → ℕ → Type 0
IsLineFrom points d minute k = (stop_rank (get_or points k d).stop ≡ 0) × (minute ≤ (get_or points k d).minute)

decide_line : (points : List Point) (d : Point) (minute k : ℕ) → IsLineFrom points d minute k
    ⊎ (¬ (IsLineFrom points d minute k))
decide_line points d minute k =
    decide_both (cases_eq (stop_rank (get_or points k d).stop) 0) (decide_le minute (get_or points k d).minute)

module _ (p : Problem) (l : ℕ) (matching : Matching) (n : LayerGraph) (net : IsNetOf p l matching n) where
  -- the first minute of the depot line from one on from which there is a line minute
  record IsFirstLine (minute : ℕ) : Type 0 where
    pub until : ℕ
    pub node : ℕ
    pub at : HasLine n.points node until
    pub in_time : minute ≤ until
    pub first : (m : ℕ) → IsLineMinute p l m → minute ≤ m → until ≤ m

  first_line : (minute m : ℕ) → IsLineMinute p l m → minute ≤ m → IsFirstLine minute
  first_line minute m is le =
      let d = line_point m in
      let has = net.points.every d is in
      let Such = IsLineFrom n.points d minute in
      let such_of : (o : ℕ) → IsLineMinute p l o → minute ≤ o
      → (k : ℕ) × (k < length n.points) × Such k × ((get_or n.points k d).minute ≡ o) = λ o is_o le_o.
      let has_o = net.points.every (line_point o) is_o in
      let here : get_or n.points has_o.0 d ≡ line_point o =
      get_or_default n.points has_o.0 d (line_point o) has_o.1 ∙ has_o.2 in
      let minute_is = ap (λ (x : Point). x.minute) here in
      (has_o.0, has_o.1, (ap (λ (x : Point). stop_rank x.stop) here, omega (arith, minute_is, le_o)), minute_is) in
      let own = such_of m is le in
      let least =
      least_of Such (decide_line n.points d minute) (λ k. (get_or n.points k d).minute) (length n.points) own.0 own.1
      own.2 in
      let x = get_or n.points least.i d in
      let none = stop_of_rank x.stop None least.passes.0 in
      let line : x ≡ line_point x.minute = λ t. record { minute = x.minute; stop = none t } in
      record {
        until = x.minute;
        node = least.i + 1;
        at = place-at n.points least.i (line_point x.minute) d least.within line;
        in_time = least.passes.1;
        first = λ o is_o le_o.
            let other = such_of o is_o le_o in
            omega (arith, least.least other.0 other.1 other.2, other.3);
      }

  module _ (a b : Event) (u v : ℕ) (arrives : ArrivesAt p l a) (departs : DepartsAt p l b)
      (from : HasPlace n.points u a) (to : HasPlace n.points v b) where
    abbrev depot : ℕ
    depot = (layer_of p l).depot.0

    -- in, on along the depot line, and out
    pub rest_walk : (stay : ℕ) (back out : Way) → (layer_of p l).stay ≡ Some stay
        → way p a.stop.0 depot ≡ Some back → way p depot b.stop.0 ≡ Some out
        → a.minute + back.minutes + stay + out.minutes ≤ b.minute
        → IsWalkOf n u v (1000 * (rated p l back.minutes back.metres + rated p l out.minutes out.metres))
    rest_walk stay back out stay_is back_is out_is in_time =
        let left = b.minute - out.minutes in
        let rests : IsSome (layer_of p l).stay =
        let P : Option ℕ → Type 0 = λ o. IsSome o in subst P (sym stay_is) refl in
        let after : IsWayAfterRest p l b out =
        record { rests = rests; way_is = out_is; in_time = omega (arith, in_time) } in
        let is_line : IsLineMinute p l left = (b, departs, (out, after, refl)) in
        let ready = a.minute + back.minutes + stay in
        let line = first_line ready left is_line (omega (arith, in_time)) in
        let w = has_node n.points (line_point left) (net.points.every (line_point left) is_line) in
        let fleet = (layer_of p l).fleet in
        let c = 1000 * rated p l back.minutes back.metres in
        let d = 1000 * rated p l out.minutes out.metres in
        let in_arc : Arc = record { from = u; to = line.node; cost = pos c; room = fleet } in
        let out_arc : Arc = record { from = w.0; to = v; cost = pos d; room = fleet } in
        let pull_in = arc_walk n RestIn in_arc c tt refl (net.every RestIn in_arc (record {
          since = a;
          by = back;
          stay = stay;
          until = line.until;
          from = from;
          to = line.at;
          arrives = arrives;
          way_is = back_is;
          stay_is = stay_is;
          rested = line.in_time;
          first = line.first;
          cost = refl;
          room = refl;
        })) in
        let pull_out = arc_walk n RestOut out_arc d tt refl (net.every RestOut out_arc (record {
          until = b;
          by = out;
          from = w.1;
          to = to;
          departs = departs;
          after = after;
          cost = refl;
          room = refl;
        })) in
        let on =
        rest_on p l matching n net (line_point left) line.node w.0 line.until left line.at w.1
        (line.first left is_line (omega (arith, in_time))) in
        walk_then n u line.node v c (0 + d) _ pull_in (walk_then n line.node w.0 v 0 d (0 + d) on pull_out refl)
        (omega arith)
