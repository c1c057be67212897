-- A plan has as many trips as its instance.
use Rattle.std.proofs.Common.{◌≡◌, ℕ, zero, suc, ◌+◌, ◌<◌, Bool, cond, eqb, ltb, eq-eqb, ne_eqb, lt-ltb, le-ltb, List, [], ◌∷◌, length, count_by, refl, sym, ap, ◌∙◌, inl, inr, arith, All}
use Rattle.std.proofs.lemmas.Bool.{cases_order}
use Rattle.std.proofs.lemmas.List.Elements.{All-head, All-tail, All-weaker}
use Rattle.std.specs.Prelude.{slice_index}
use Rattle.std.proofs.lemmas.List.{ext_get_or}
use Rattle.std.proofs.lemmas.List.FromFn.{get_or-map-range_with_len, length-map-range_with_len}
use Rattle.std.proofs.lemmas.List.Sums.{sum_by-cons}
use Rattle.vs_types.specs.declared.numbers.TripNo.{TripNo}
use Rattle.vs_instance.specs.Problem.{Problem}
use Rattle.vs_instance.specs.Blocks.{IsBlock}
use Rattle.vs_instance.proofs.CallerLemmas.{All-all_trips}
use Rattle.vs_plan.specs.PlanFaults.{times_of}
use Rattle.vs_instance.specs.Plan.{IsPlan, LayerBlock, all_trips, times_run}

-- how many of the trips have a number below n, and how many number n
abbrev below : ℕ → List TripNo → ℕ
below n trips = count_by (λ t. ltb t.0 n) trips

abbrev of_number : ℕ → List TripNo → ℕ
of_number n trips = count_by (λ t. eqb t.0 n) trips

one_below : (k n : ℕ) → cond (ltb k (suc n)) 1 0 ≡ cond (ltb k n) 1 0 + cond (eqb k n) 1 0
one_below k n = elim (cases_order k n) [
  | inl same ↦ rw (lt-ltb k (suc n) (omega arith), le-ltb k n (omega arith), eq-eqb k n same) refl
  | inr other ↦ elim other [
    | inl less ↦ rw (lt-ltb k (suc n) (omega arith), lt-ltb k n less, ne_eqb k n (omega arith)) refl
    | inr more ↦ rw (le-ltb k (suc n) (omega arith), le-ltb k n (omega arith), ne_eqb k n (omega arith)) refl
  ]
]

-- the first counts, or it doesn't
count-cons : (test : TripNo → Bool) (t : TripNo) (trips : List TripNo)
    → count_by test (t ∷ trips) ≡ cond (test t) 1 0 + count_by test trips
count-cons test t trips = sum_by-cons (λ x. cond (test x) 1 0) t trips

below_more : (n : ℕ) (trips : List TripNo) → below (suc n) trips ≡ below n trips + of_number n trips
below_more n [] = refl
below_more n (t ∷ trips) = omega (
  arith,
  one_below t.0 n,
  below_more n trips,
  count-cons (λ x. ltb x.0 (suc n)) t trips,
  count-cons (λ x. ltb x.0 n) t trips,
  count-cons (λ x. eqb x.0 n) t trips,
)

below_none : (trips : List TripNo) → below 0 trips ≡ 0
below_none [] = refl
below_none (t ∷ trips) =
    let counted : Bool → ℕ = λ b. cond b 1 0 in
    let no : counted (ltb t.0 0) ≡ 0 = ap counted (le-ltb t.0 0 (omega arith)) in
    omega (arith, no, below_none trips, count-cons (λ x. ltb x.0 0) t trips)

below_all : (n : ℕ) (trips : List TripNo) → All (λ t. t.0 < n) trips → below n trips ≡ length trips
below_all n [] all = refl
below_all n (t ∷ trips) all =
    let counted : Bool → ℕ = λ b. cond b 1 0 in
    let yes : counted (ltb t.0 n) ≡ 1 = ap counted (lt-ltb t.0 n (All-head (λ (u : TripNo). u.0 < n) t trips all)) in
    omega (
      arith,
      yes,
      below_all n trips (All-tail (λ (u : TripNo). u.0 < n) t trips all),
      count-cons (λ x. ltb x.0 n) t trips,
    )

each_once : (n : ℕ) (trips : List TripNo) → ((i : ℕ) → i < n → of_number i trips ≡ 1) → below n trips ≡ n
each_once zero trips once = below_none trips
each_once (suc n) trips once =
    omega (arith, below_more n trips, each_once n trips (λ i lt. once i (omega arith)), once n (omega arith))

-- a plan has as many trips as its instance
pub plan_trips : (p : Problem) (blocks : List LayerBlock) → IsPlan p blocks → length (all_trips blocks) ≡ length p.trips
plan_trips p blocks plan =
    let within = All-all_trips (λ (t : TripNo). t.0 < length p.trips) blocks
    (All-weaker (λ (b : LayerBlock). IsBlock p b.0 b.1)
    (λ (b : LayerBlock). All (λ (t : TripNo). t.0 < length p.trips) b.1)
    (λ b is. is.of_instance) blocks plan.each_block) in
    sym (below_all (length p.trips) (all_trips blocks) within) ∙ each_once (length p.trips) (all_trips blocks) plan.once

-- a list that counts how often each trip stands is that of the definition
pub counts-times_of : (p : Problem) (blocks : List LayerBlock) (times : List ℕ) → length times ≡ length p.trips
    → ((i : ℕ) → i < length p.trips → slice_index times i ≡ times_run blocks i) → times ≡ times_of p blocks
counts-times_of p blocks times size counted =
    ext_get_or 0 times (times_of p blocks)
    (size ∙ sym (length-map-range_with_len (times_run blocks) 0 (length p.trips)))
    (λ i inside.
    let within : i < length p.trips = omega (arith, size) in
    counted i within ∙ sym (get_or-map-range_with_len (times_run blocks) 0 (length p.trips) i i 0 within (omega arith)))
