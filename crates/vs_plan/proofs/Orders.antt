-- Trips in the order in which they are taken.
use Rattle.std.proofs.Common.{◌≡◌, ◌≢◌, ℕ, ◌<◌, Bool, false, eqb, List, length, get_or, map, ◌⊎◌, refl, sym, ap, ◌∙◌, subst, arith}
use Rattle.std.specs.List.{All, AllPairs, Contains, IsDistinct}
use Rattle.std.specs.List.Sorted.{IsPermutation, IsSorted}
use Rattle.std.specs.Cmp.{IsStrictWeakOrder}
use Rattle.std.specs.Ordering.{is_lt}
use Rattle.std.proofs.lemmas.Bool.{eqb-false, ne_eqb}
use Rattle.std.proofs.lemmas.Bool.Decides.{nat_tests}
use Rattle.std.proofs.lemmas.List.{get_or-map, length-map}
use Rattle.std.proofs.lemmas.List.Elements.{All-get_or, All-contains}
use Rattle.std.proofs.lemmas.List.Sorted.{ranks_by, sorted_far, All-permutation, Contains-permutation}
use Rattle.std.proofs.lemmas.Map.Keys.{apart_from_distinct, IsDistinct-from_apart, IsDistinct-IsPermutation}
use Rattle.vs_types.specs.declared.numbers.TripNo.{TripNo}
use Rattle.vs_instance.specs.Problem.{Problem, pair_cmp}
use Rattle.vs_instance.specs.Ways.{trip_of}
use Rattle.vs_instance.proofs.CallerLemmas.{pair_cmp-total}
use Rattle.vs_plan.specs.Greedy.{IsOrder, TakenBefore}

-- the trip of a start and a number
abbrev pub trip_at : ℕ × ℕ → TripNo
trip_at t = record { 0 = t.1 }

-- the start and the number of each of the first n trips
pub record AreStarts (p : Problem) (n : ℕ) (xs : List (ℕ × ℕ)) : Type 0 where
  pub size : length xs ≡ n
  pub each : (k : ℕ) (d : ℕ × ℕ) → k < n → get_or xs k d ≡ ((trip_of p k).start, k)

order : IsStrictWeakOrder (λ (x y : ℕ × ℕ). is_lt (pair_cmp x y))
order = ranks_by pair_cmp-total (λ (x : ℕ × ℕ). x)

-- of two pairs with different numbers the second, where it isn't below the first, is above it
above : (s i t j : ℕ) → is_lt (pair_cmp (t, j) (s, i)) ≡ false → i ≢ j → (s < t) ⊎ ((s ≡ t) × (i < j))
above s i t j not_below apart = grind (arith, nat_tests)

module _ (p : Problem) (xs ys : List (ℕ × ℕ)) (starts : AreStarts p (length p.trips) xs)
    (moved : IsPermutation xs ys) (sorted : IsSorted pair_cmp ys) where
  -- what holds of each pair
  abbrev IsStart : ℕ × ℕ → Type 0
  IsStart t = (t.0 ≡ (trip_of p t.1).start) × (t.1 < length p.trips)

  starts_are : All IsStart xs
  starts_are k d within =
      let lt : k < length p.trips = omega (arith, starts.size) in
      subst IsStart (sym (starts.each k d lt)) (refl, lt)

  starts_stay : All IsStart ys
  starts_stay = All-permutation IsStart xs ys moved starts_are

  abbrev same_number : ℕ × ℕ → ℕ × ℕ → Bool
  same_number x y = eqb x.1 y.1

  flips : (x y : ℕ × ℕ) → same_number x y ≡ same_number y x
  flips x y = grind (arith, nat_tests)

  apart_before : (i j : ℕ) (d : ℕ × ℕ) → i < j → j < length xs → same_number (get_or xs i d) (get_or xs j d) ≡ false
  apart_before i j d before within =
      let of_i : i < length p.trips = omega (arith, starts.size) in
      let of_j : j < length p.trips = omega (arith, starts.size) in
      let ne : i ≢ j = omega arith in
      ap (λ (x : ℕ × ℕ). same_number x (get_or xs j d)) (starts.each i d of_i)
      ∙ ap (λ (x : ℕ × ℕ). eqb i x.1) (starts.each j d of_j) ∙ ne_eqb i j ne

  distinct : IsDistinct same_number ys
  distinct = IsDistinct-IsPermutation same_number flips xs ys moved (IsDistinct-from_apart same_number xs apart_before)

  in_order : AllPairs (TakenBefore p) (map trip_at ys)
  in_order i j d before within =
      let of_j : j < length ys = omega (arith, length-map ys trip_at) in
      let of_i : i < length ys = omega arith in
      let a = get_or ys i (0, 0) in
      let b = get_or ys j (0, 0) in
      let a_is = All-get_or IsStart ys i (0, 0) of_i starts_stay in
      let b_is = All-get_or IsStart ys j (0, 0) of_j starts_stay in
      let apart : a.1 ≢ b.1 = eqb-false a.1 b.1 (apart_from_distinct same_number ys i j (0, 0) distinct before of_j) in
      let far = sorted_far (λ (x y : ℕ × ℕ). is_lt (pair_cmp x y)) order ys sorted i j (0, 0) (omega arith) of_j in
      let cases = above a.0 a.1 b.0 b.1 far apart in
      let starts_so : TakenBefore p (trip_at a) (trip_at b) =
      subst (λ (s : ℕ). (s < (trip_of p b.1).start) ⊎ ((s ≡ (trip_of p b.1).start) × (a.1 < b.1))) a_is.0
      (subst (λ (t : ℕ). (a.0 < t) ⊎ ((a.0 ≡ t) × (a.1 < b.1))) b_is.0 cases) in
      subst (λ (x : TripNo). TakenBefore p x (get_or (map trip_at ys) j d))
      (sym (get_or-map trip_at ys i (0, 0) d of_i))
      (subst (λ (y : TripNo). TakenBefore p (trip_at a) y) (sym (get_or-map trip_at ys j (0, 0) d of_j)) starts_so)

  all_below : All (λ (t : TripNo). t.0 < length p.trips) (map trip_at ys)
  all_below k d within =
      let of_k : k < length ys = omega (arith, length-map ys trip_at) in
      subst (λ (t : TripNo). t.0 < length p.trips) (sym (get_or-map trip_at ys k (0, 0) d of_k))
      (All-get_or IsStart ys k (0, 0) of_k starts_stay).1

  contained : (i : TripNo) → i.0 < length p.trips → Contains (map trip_at ys) i
  contained i within =
      let t : ℕ × ℕ = ((trip_of p i.0).start, i.0) in
      let in_xs : Contains xs t = (i.0, omega (arith, starts.size), starts.each i.0 t within) in
      let in_ys = Contains-permutation xs ys t moved in_xs in (
        in_ys.0,
        omega (arith, length-map ys trip_at, in_ys.1),
        get_or-map trip_at ys in_ys.0 t i in_ys.1 ∙ ap trip_at in_ys.2,
      )

  pub IsOrder-from_sort : IsOrder p (map trip_at ys)
  IsOrder-from_sort = record {
    all = λ i. (λ c. All-contains (λ (t : TripNo). t.0 < length p.trips) (map trip_at ys) i all_below c, contained i);
    in_order = in_order;
  }
