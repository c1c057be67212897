-- The trips that a layer may run, each once and in order.
use Rattle.std.proofs.Common.{◌≡◌, ℕ, ◌+◌, ◌<◌, ◌≤◌, ◌==◌, Bool, true, length, get_or, sym, ◌∙◌, arith, inl, inr}
use Rattle.std.specs.Prelude.{Contains}
use Rattle.std.specs.Int.{bit_at}
use Rattle.std.specs.List.{All, position_or_len, range_with_len}
use Rattle.std.specs.List.Sorted.{IsStrictlyIncreasing}
use Rattle.std.proofs.lemmas.Bool.{cases_lt, cases_order, eq-eqb, eqb-true, true≢false}
use Rattle.std.proofs.lemmas.List.Elements.{All-filter, All-weaker, filter_passes}
use Rattle.std.proofs.lemmas.List.FromFn.{get_or-range_with_len, length-range_with_len}
use Rattle.std.proofs.lemmas.List.Kept.{AllPairs-from_increasing, IsStrictlyIncreasing-filter}
use Rattle.std.proofs.lemmas.List.Sums.{count_by-le-length, fails_before_first, length-filter, passes_at_first}
use Rattle.vs_types.proofs.CallerLemmas.{Contains-filter}
use Rattle.vs_instance.specs.Problem.{Problem}
use Rattle.vs_instance.specs.Ways.{Permitted, trip_of}
use Rattle.vs_peakcheck.specs.Counting.{own_number, permitted_trips}
use Rattle.vs_rows.proofs.CallerLemmas.{all_below}

-- numbers in order rise
rising : (n : ℕ) → IsStrictlyIncreasing (range_with_len 0 n)
rising n k within =
    let here : k < n = omega (arith, within, length-range_with_len 0 n) in
    let next : k + 1 < n = omega (arith, within, length-range_with_len 0 n) in
    omega (arith, get_or-range_with_len 0 n k 0 here, get_or-range_with_len 0 n (k + 1) 0 next)

module _ (p : Problem) (l : ℕ) where
  abbrev pub may : ℕ → Bool
  may i = bit_at (trip_of p i).layers.0 l == 1

  -- no more than there are trips
  pub few_permitted : length (permitted_trips p l) ≤ length p.trips
  few_permitted = omega (
    arith,
    length-filter may (range_with_len 0 (length p.trips)),
    count_by-le-length may (range_with_len 0 (length p.trips)),
    length-range_with_len 0 (length p.trips),
  )

  pub all_within : All (λ i. i < length p.trips) (permitted_trips p l)
  all_within =
      All-filter may (λ i. i < length p.trips) (range_with_len 0 (length p.trips)) (all_below (length p.trips))

  pub all_permitted : All (λ i. Permitted p l i) (permitted_trips p l)
  all_permitted = All-weaker (λ i. may i ≡ true) (λ i. Permitted p l i)
      (λ i passes. eqb-true (bit_at (trip_of p i).layers.0 l) 1 passes) (permitted_trips p l)
      (filter_passes may (range_with_len 0 (length p.trips)))

  -- one number of its own for each
  pub own_once : (j k : ℕ) → j < length (permitted_trips p l) → k < length (permitted_trips p l)
      → own_number p l j ≡ own_number p l k → j ≡ k
  own_once j k here there same =
      let apart = AllPairs-from_increasing (permitted_trips p l)
      (IsStrictlyIncreasing-filter may (range_with_len 0 (length p.trips)) (rising (length p.trips))) in
      elim (cases_order j k) [
        | inl is ↦ is
        | inr other ↦ elim other [
          | inl less ↦ let e = apart j k 0 less there in absurd (omega (arith, e, same))
          | inr more ↦ let e = apart k j 0 more here in absurd (omega (arith, e, same))
        ]
      ]

  -- each trip that the layer may run is among them
  pub has_number : (i : ℕ) → i < length p.trips → Permitted p l i → Contains (permitted_trips p l) i
  has_number i within is =
      Contains-filter may (range_with_len 0 (length p.trips)) i (
        i,
        omega (arith, within, length-range_with_len 0 (length p.trips)),
        omega (arith, get_or-range_with_len 0 (length p.trips) i i within),
      )
      (eq-eqb (bit_at (trip_of p i).layers.0 l) 1 is)

  -- where trip i stands among them
  abbrev pub place_in : ℕ → ℕ
  place_in i = position_or_len (λ k. k == i) (permitted_trips p l)

  place_within : (i : ℕ) → Contains (permitted_trips p l) i → place_in i < length (permitted_trips p l)
  place_within i (k, within, is) =
      elim (cases_lt (place_in i) (length (permitted_trips p l))) [
        | inl inside ↦ inside
        | inr past ↦
            let before : k < place_in i = omega (arith, within, past) in
            let fails = fails_before_first (λ (x : ℕ). x == i) (permitted_trips p l) k i before in
            absurd (true≢false (sym (eq-eqb (get_or (permitted_trips p l) k i) i is) ∙ fails))
      ]

  pub placed : (i : ℕ) → Contains (permitted_trips p l) i
      → (place_in i < length (permitted_trips p l)) × (own_number p l (place_in i) ≡ i)
  placed i among =
      let within = place_within i among in (
        within,
        eqb-true (own_number p l (place_in i)) i
            (passes_at_first (λ (x : ℕ). x == i) (permitted_trips p l) 0 within),
      )
