-- The points of a layer's trips, put together trip by trip.
use Rattle.std.proofs.Common.{◌≡◌, ℕ, List, [], ◌∷◌, ◌++◌, length, Option, Some, None, inl, inr, refl, sym, ap, subst, true, eqb, ◌&&◌, arith}
use Rattle.std.specs.Prelude.{◌⊎◌, ◌↔◌, Contains, AllPairs}
use Rattle.std.specs.Option.{option_eq}
use Rattle.std.specs.declared.cmp.Ordering.TheVariants.{Less}
use Rattle.std.proofs.lemmas.Bool.{eqb-true, and_parts, false≢true}
use Rattle.vs_types.specs.declared.numbers.StopNo.{StopNo}
use Rattle.vs_instance.specs.Problem.{Problem}
use Rattle.vs_match.specs.declared.event.Event.{Event}
use Rattle.vs_match.specs.declared.event.Point.{Point}
use Rattle.vs_match.specs.Events.{departure, arrival, MayRun, IsPoint, IsPointAt, RestsUntil, ArePoints, point_of, line_point, stop_rank}
use Rattle.vs_match.specs.TripPoints.{IsLineOf, IsOfDeparture, OfTrip}
use Rattle.vs_match.specs.Adds.{Adds}
use Rattle.vs_match.proofs.events.Adding.{Upto, adds-one, adds-both, adds-as, contains-none}
use Rattle.vs_match.proofs.order.Orders.{point_cmp, point_before, point_of_both}

-- a departure, and then what it adds besides
pub adds_departure : (p : Problem) (l : ℕ) (e : Event) (before after : List Point)
    → Adds (IsLineOf p l e) (before ++ point_of e ∷ []) after → Adds (IsOfDeparture p l e) before after
adds_departure p l e before after line =
    let D : Point → Type 0 = λ x. point_of e ≡ x in
    adds-both D (IsLineOf p l e) before (before ++ point_of e ∷ []) after
    (adds-one D before (point_of e) refl (λ x same. same)) line

-- the points of a departure, and then the arrival
pub adds_trip : (p : Problem) (l i : ℕ) → MayRun p l i → (before after : List Point)
    → Adds (IsOfDeparture p l (departure p i)) before after
    → Adds (OfTrip p l i) before (after ++ point_of (arrival p i) ∷ [])
adds_trip p l i may before after departs =
    let D : Point → Type 0 = IsOfDeparture p l (departure p i) in
    let A : Point → Type 0 = λ x. point_of (arrival p i) ≡ x in
    let all = after ++ point_of (arrival p i) ∷ [] in
    let arrives : Adds A after all = adds-one A after (point_of (arrival p i)) refl (λ x same. same) in
    adds-as (λ x. D x ⊎ A x) (OfTrip p l i) before all (adds-both D A before after all departs arrives)
    (λ x is. (may, is)) (λ x is. is.1)

-- a point of one of the trips is one of the layer
is_point : (p : Problem) (l : ℕ) (x y : Point) → y ≡ x → IsPoint p l y → IsPoint p l x
is_point p l x y same is = let P : Point → Type 0 = λ z. IsPoint p l z in subst P same is

point-of : (p : Problem) (l : ℕ) (x : Point) → Upto (OfTrip p l) (length p.trips) x → IsPoint p l x
point-of p l x (i, within, (may, is)) =
    elim is [
      | inl some ↦ elim some [
        | inl departs ↦ is_point p l x (point_of (departure p i)) departs (inl (i, may, refl))
        | inr line ↦ is_point p l x (line_point line.0) line.2 (departure p i, (i, may, refl), line.1)
      ]
      | inr arrives ↦ is_point p l x (point_of (arrival p i)) arrives (inr (i, may, refl))
    ]

of-point : (p : Problem) (l minute : ℕ) (stop : Option StopNo) → IsPointAt p l minute stop
    → Upto (OfTrip p l) (length p.trips) (record { minute = minute; stop = stop })
of-point p l minute (Some stop) (inl (i, may, departs)) = (i, may.0, (may, inl (inl (ap point_of departs))))
of-point p l minute (Some stop) (inr (i, may, arrives)) = (i, may.0, (may, inr (ap point_of arrives)))
of-point p l minute None (e, (i, may, departs), rests) =
    let R : Event → Type 0 = λ f. RestsUntil p l minute f in
    (i, may.0, (may, inl (inr (minute, subst R (sym departs) rests, refl))))

-- all of them, put in order
pub are_points : (p : Problem) (l : ℕ) (found points : List Point) → Adds (Upto (OfTrip p l) (length p.trips)) [] found
    → ((x : Point) → Contains points x ↔ Contains found x) → AllPairs (λ a b. point_cmp a b ≡ Less) points
    → ArePoints p l points
are_points p l found points adds same ordered = record {
  only = λ x has. elim ((adds x).0 ((same x).0 has)) [
    | inl none ↦ absurd (contains-none x none)
    | inr is ↦ point-of p l x is
  ];
  every = λ x is. (same x).1 ((adds x).1 (inr (of-point p l x.minute x.stop is)));
  ordered = λ j k d less within. point_before _ _ (ordered j k d less within);
}

stop_equal : (a b : Option StopNo) → option_eq (λ x y. eqb x.0 y.0) a b ≡ true → stop_rank a ≡ stop_rank b
stop_equal None None is = refl
stop_equal None (Some b) is = absurd (false≢true is)
stop_equal (Some a) None is = absurd (false≢true is)
stop_equal (Some a) (Some b) is = let same = eqb-true a.0 b.0 is in omega (arith, same)

-- points that test equal are
pub point_equal : (a b : Point)
    → (eqb a.minute b.minute && option_eq (λ (x : StopNo) (y : StopNo). eqb x.0 y.0) a.stop b.stop) ≡ true → a ≡ b
point_equal a b is =
    let both = and_parts _ _ is in
    point_of_both a b (eqb-true a.minute b.minute both.0) (stop_equal a.stop b.stop both.1)
