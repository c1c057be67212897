-- A layer has at most three points for each trip: its departure, its arrival, and the minute until which a vehicle
-- rests that leaves the depot for it.
use Rattle.std.proofs.Common.{◌≡◌, ℕ, zero, suc, ◌+◌, ◌-◌, ◌*◌, ◌<◌, ◌≤◌, true, eqb, List, [], ◌∷◌, length, get_or, refl, sym, ap, ◌∙◌, inl, inr, arith, Option, Some, None}
use Rattle.std.specs.List.{IsDistinct, list_any}
use Rattle.std.proofs.lemmas.Bool.{cases_Bool, eqb-true, ne_eqb}
use Rattle.std.proofs.lemmas.List.{get_or_default}
use Rattle.std.proofs.lemmas.List.Elements.{Contains-get_or}
use Rattle.std.proofs.lemmas.Map.Keys.{IsDistinct-from_apart}
use Rattle.std.proofs.lemmas.Map.Steps.{length-le_from_distinct_below}
use Rattle.vs_types.specs.declared.numbers.StopNo.{StopNo}
use Rattle.vs_instance.specs.declared.way.Way.{Way}
use Rattle.vs_instance.specs.Problem.{Problem}
use Rattle.vs_instance.specs.Ways.{layer_of, way}
use Rattle.vs_match.specs.declared.event.Event.{Event}
use Rattle.vs_match.specs.declared.event.Point.{Point}
use Rattle.vs_match.specs.Events.{ArePoints, IsPoint, IsPointAt, arrival, departure, line_point, point_of}
use Rattle.vs_match.proofs.events.Places.{not_before_itself}

-- the point of a number, three numbers for each trip, in words: what the point is that has the number
module _ (p : Problem) (l : ℕ) where
  -- the minute until which a vehicle rests that leaves the depot by this way for trip i
  abbrev line_of_way : ℕ → Option Way → Point
  line_of_way i None = line_point 0
  line_of_way i (Some w) = line_point ((departure p i).minute - w.minutes)

  -- the three points of trip i, by the numbers 0, 1 and 2
  abbrev point_by : ℕ → ℕ → Point
  point_by i zero = point_of (departure p i)
  point_by i (suc zero) = point_of (arrival p i)
  point_by i (suc (suc k)) = line_of_way i (way p (layer_of p l).depot.0 (departure p i).stop.0)

  -- a point is one of the three of some trip
  record IsOfTrip (x : Point) : Type 0 where
    pub i : ℕ
    pub kind : ℕ
    pub within : i < length p.trips
    pub three : kind < 3
    pub is : x ≡ point_by i kind

  of_event : (minute : ℕ) (stop : Option StopNo) → IsPointAt p l minute stop
      → IsOfTrip (record { minute = minute; stop = stop })
  of_event minute (Some stop) (inl (i, may, at)) =
      record { i = i; kind = 0; within = may.0; three = omega arith; is = sym (ap point_of at) }
  of_event minute (Some stop) (inr (i, may, at)) =
      record { i = i; kind = 1; within = may.0; three = omega arith; is = sym (ap point_of at) }
  of_event minute None (e, (i, may, at), (w, after, left)) =
      let found : way p (layer_of p l).depot.0 (departure p i).stop.0 ≡ Some w =
      ap (λ (x : Event). way p (layer_of p l).depot.0 x.stop.0) at ∙ after.way_is in
      let minute_is : minute ≡ (departure p i).minute - w.minutes =
      left ∙ ap (λ (x : Event). x.minute - w.minutes) (sym at) in
      record {
        i = i;
        kind = 2;
        within = may.0;
        three = omega arith;
        is = ap line_point minute_is ∙ sym (ap (line_of_way i) found);
      }

  of_trip : (x : Point) → IsPoint p l x → IsOfTrip x
  of_trip x is = of_event x.minute x.stop is

  abbrev code : (x : Point) → IsOfTrip x → ℕ
  code x of = 3 * of.i + of.kind

  code-same : (x y : Point) (a : IsOfTrip x) (b : IsOfTrip y) → code x a ≡ code y b → x ≡ y
  code-same x y a b same =
      let trip : a.i ≡ b.i = omega (arith, same, a.three, b.three) in
      let kind : a.kind ≡ b.kind = omega (arith, same, trip) in
      a.is ∙ ap (λ (i : ℕ). point_by i a.kind) trip ∙ ap (λ (k : ℕ). point_by b.i k) kind ∙ sym b.is

  abbrev no_point : Point
  no_point = record { minute = 0; stop = None }

  -- each of these is a point of a trip
  abbrev AreOfTrips : List Point → Type 0
  AreOfTrips xs = (k : ℕ) → k < length xs → IsOfTrip (get_or xs k no_point)

  abbrev first_of : (x : Point) (xs : List Point) → AreOfTrips (x ∷ xs) → IsOfTrip x
  first_of x xs each = each 0 (omega arith)

  abbrev rest_of : (x : Point) (xs : List Point) → AreOfTrips (x ∷ xs) → AreOfTrips xs
  rest_of x xs each = λ k within. each (suc k) (omega arith)

  abbrev codes : (xs : List Point) → AreOfTrips xs → List ℕ
  codes [] each = []
  codes (x ∷ xs) each = code x (first_of x xs each) ∷ codes xs (rest_of x xs each)

  length-codes : (xs : List Point) (each : AreOfTrips xs) → length (codes xs each) ≡ length xs
  length-codes [] each = refl
  length-codes (x ∷ xs) each = ap suc (length-codes xs (rest_of x xs each))

  code_at : (xs : List Point) (each : AreOfTrips xs) (k : ℕ) → k < length xs
      → (of : IsOfTrip (get_or xs k no_point)) × (get_or (codes xs each) k 0 ≡ code (get_or xs k no_point) of)
  code_at [] each k within = absurd (omega arith)
  code_at (x ∷ xs) each zero within = (first_of x xs each, refl)
  code_at (x ∷ xs) each (suc k) within = code_at xs (rest_of x xs each) k (omega arith)

  -- no code is that of a trip past the last
  codes-below : (xs : List Point) (each : AreOfTrips xs) (q : ℕ) → list_any (eqb q) (codes xs each) ≡ true
      → q < 3 * length p.trips
  codes-below [] each q has = absurd (cc)
  codes-below (x ∷ xs) each q has =
      let of : IsOfTrip x = first_of x xs each in
      elim (cases_Bool (eqb q (code x (first_of x xs each)))) [
        | inl hit ↦
            let same : q ≡ code x of = eqb-true q (code x of) hit in
            omega (arith, same, of.within, of.three)
        | inr miss ↦ codes-below xs (rest_of x xs each) q (rw miss at has)
      ]

  pub few_points : (points : List Point) → ArePoints p l points → length points ≤ 3 * length p.trips
  few_points points are =
      let each : AreOfTrips points =
      λ k within. of_trip (get_or points k no_point) (are.only (get_or points k no_point)
      (Contains-get_or points k no_point within)) in
      let distinct : IsDistinct eqb (codes points each) =
      IsDistinct-from_apart eqb (codes points each) (λ i j d before within.
      let inside : j < length points = omega (arith, length-codes points each) in
      let a = code_at points each i (omega arith) in
      let b = code_at points each j inside in
      let at_i = get_or_default (codes points each) i d 0 (omega arith) in
      let at_j = get_or_default (codes points each) j d 0 within in
      ne_eqb (get_or (codes points each) i d) (get_or (codes points each) j d) (λ same.
      not_before_itself (get_or points i no_point) (get_or points j no_point)
      (code-same (get_or points i no_point) (get_or points j no_point) a.0 b.0
      (sym (at_i ∙ a.1) ∙ same ∙ at_j ∙ b.1)) (are.ordered i j no_point before inside))) in
      let few = length-le_from_distinct_below (codes points each) (3 * length p.trips) distinct
      (codes-below points each) in
      omega (arith, few, length-codes points each)
