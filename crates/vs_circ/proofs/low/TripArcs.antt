-- Totals over the arcs of trips as totals over the trips.
use Rattle.std.proofs.Common.{◌≡◌, ◌≢◌, ℕ, zero, suc, ◌+◌, ◌<◌, ◌⊎◌, Bool, true, false, cond, eqb, List, length, refl, sym, ap, ◌∙◌, arith, inl, inr, ℤ, pos}
use Rattle.std.specs.List.{range_with_len}
use Rattle.std.proofs.lemmas.Bool.{cases_eq, eqb-true, eq-eqb, ne_eqb, false≢true}
use Rattle.vs_match.specs.declared.arc_kind.ArcKind.{ArcKind}
use Rattle.vs_match.specs.declared.arc_kind.ArcKind.TheVariants.{Trip, Waiting, Deadhead, PullOut, PullIn, RestIn, RestWait, RestOut, Return}
use Rattle.vs_match.specs.LayerGraph.{IsArcOfTrip, kind_at}
use Rattle.vs_circ.proofs.low.Reindexing.{over_range, total-none, total-only, total-same, total-swap}

-- the arc is trip i's
abbrev is_of_trip : ArcKind → ℕ → Bool
is_of_trip (Trip j) i = eqb j.0 i
is_of_trip _ i = false

-- an amount on an arc of a trip, nothing on any other
abbrev pub on_trip : ArcKind → ℤ → ℤ
on_trip (Trip j) x = x
on_trip _ x = pos 0

-- an arc that is a trip's by the test is so
of_trip-is : (kind : ArcKind) (i : ℕ) → is_of_trip kind i ≡ true → kind ≡ Trip (record { 0 = i })
of_trip-is (Trip j) i is = ap (λ (m : ℕ). Trip (record { 0 = m })) (eqb-true j.0 i is)
of_trip-is Waiting i is = cc
of_trip-is Deadhead i is = cc
of_trip-is PullOut i is = cc
of_trip-is PullIn i is = cc
of_trip-is RestIn i is = cc
of_trip-is RestWait i is = cc
of_trip-is RestOut i is = cc
of_trip-is Return i is = cc

-- what an arc has goes to its trip, and to no other
given_to_trip : (kind : ArcKind) (x : ℤ) (n : ℕ) → ((i : ℕ) → kind ≡ Trip (record { 0 = i }) → i < n)
    → over_range (λ i. cond (is_of_trip kind i) x (pos 0)) 0 n ≡ on_trip kind x
given_to_trip (Trip j) x n inside =
    let within = inside j.0 refl in
    total-only (λ i. cond (eqb j.0 i) x (pos 0)) j.0 0 n (omega arith) (omega arith)
    (λ i at other. ap (λ (b : Bool). cond b x (pos 0)) (ne_eqb j.0 i (λ same. other (sym same))))
    ∙ ap (λ (b : Bool). cond b x (pos 0)) (eq-eqb j.0 j.0 refl)
given_to_trip Waiting x n inside = total-none (λ i. pos 0) 0 n (λ k from within. refl)
given_to_trip Deadhead x n inside = total-none (λ i. pos 0) 0 n (λ k from within. refl)
given_to_trip PullOut x n inside = total-none (λ i. pos 0) 0 n (λ k from within. refl)
given_to_trip PullIn x n inside = total-none (λ i. pos 0) 0 n (λ k from within. refl)
given_to_trip RestIn x n inside = total-none (λ i. pos 0) 0 n (λ k from within. refl)
given_to_trip RestWait x n inside = total-none (λ i. pos 0) 0 n (λ k from within. refl)
given_to_trip RestOut x n inside = total-none (λ i. pos 0) 0 n (λ k from within. refl)
given_to_trip Return x n inside = total-none (λ i. pos 0) 0 n (λ k from within. refl)

module _ (kinds : List ArcKind) where
  -- what the arcs of trips have of an amount for each arc, nothing on the others
  abbrev pub on_trips : (ℕ → ℤ) → ℕ → ℤ
  on_trips f k = on_trip (kind_at kinds k) (f k)

  -- what trip i's arcs have
  abbrev pub at_trip : (ℕ → ℤ) → ℕ → ℤ
  at_trip f i = over_range (λ k. cond (is_of_trip (kind_at kinds k) i) (f k) (pos 0)) 0 (length kinds)

  -- a total over the arcs of trips is one over the trips
  pub total-by_trip : (f : ℕ → ℤ) (n : ℕ) → ((i k : ℕ) → IsArcOfTrip kinds i k → i < n)
      → over_range (on_trips f) 0 (length kinds) ≡ over_range (at_trip f) 0 n
  total-by_trip f n inside =
      total-same (on_trips f)
      (λ k. over_range (λ i. cond (is_of_trip (kind_at kinds k) i) (f k) (pos 0)) 0 n) 0 (length kinds)
      (λ k from within. sym (given_to_trip (kind_at kinds k) (f k) n (λ i is. inside i k (omega arith, is))))
      ∙ total-swap (λ k i. cond (is_of_trip (kind_at kinds k) i) (f k) (pos 0)) (range_with_len 0 (length kinds))
      (range_with_len 0 n)

  -- a trip with one arc has what that arc has
  pub at_trip-arc : (f : ℕ → ℤ) (i k : ℕ) → IsArcOfTrip kinds i k
      → ((j : ℕ) → IsArcOfTrip kinds i j → j ≡ k) → at_trip f i ≡ f k
  at_trip-arc f i k arc one =
      total-only (λ j. cond (is_of_trip (kind_at kinds j) i) (f j) (pos 0)) k 0 (length kinds) (omega arith)
      (omega (arith, arc.0))
      (λ j within other. not_other j within other (is_of_trip (kind_at kinds j) i) refl)
      ∙ ap (λ (b : Bool). cond b (f k) (pos 0)) (ap (λ (kind : ArcKind). is_of_trip kind i) arc.1 ∙ eq-eqb i i refl)
    where
      not_other : (j : ℕ) → j < 0 + length kinds → j ≢ k → (b : Bool) → is_of_trip (kind_at kinds j) i ≡ b
          → cond b (f j) (pos 0) ≡ pos 0
      not_other j within other true is =
          absurd (other (one j (omega arith, of_trip-is (kind_at kinds j) i is)))
      not_other j within other false is = refl

  -- a trip without an arc has nothing
  pub at_trip-none : (f : ℕ → ℤ) (i : ℕ) → ((k : ℕ) → ¬ (IsArcOfTrip kinds i k)) → at_trip f i ≡ pos 0
  at_trip-none f i none =
      total-none (λ k. cond (is_of_trip (kind_at kinds k) i) (f k) (pos 0)) 0 (length kinds)
      (λ k from within. nothing k within (is_of_trip (kind_at kinds k) i) refl)
    where
      nothing : (k : ℕ) → k < 0 + length kinds → (b : Bool) → is_of_trip (kind_at kinds k) i ≡ b
          → cond b (f k) (pos 0) ≡ pos 0
      nothing k within true is = absurd (none k (omega arith, of_trip-is (kind_at kinds k) i is))
      nothing k within false is = refl

  -- a trip has an arc among the first so many, or none there
  arc_below : (i n : ℕ) → ((k : ℕ) × (k < n) × (is_of_trip (kind_at kinds k) i ≡ true))
      ⊎ ((k : ℕ) → k < n → is_of_trip (kind_at kinds k) i ≡ false)
  arc_below i zero = inr (λ k within. absurd (omega arith))
  arc_below i (suc n) = by_test (is_of_trip (kind_at kinds n) i) refl (arc_below i n)
    where
      by_test : (b : Bool) → is_of_trip (kind_at kinds n) i ≡ b
          → ((k : ℕ) × (k < n) × (is_of_trip (kind_at kinds k) i ≡ true))
          ⊎ ((k : ℕ) → k < n → is_of_trip (kind_at kinds k) i ≡ false)
          → ((k : ℕ) × (k < suc n) × (is_of_trip (kind_at kinds k) i ≡ true))
          ⊎ ((k : ℕ) → k < suc n → is_of_trip (kind_at kinds k) i ≡ false)
      by_test true is before = inl (n, omega arith, is)
      by_test false is (inl found) = inl (found.0, omega (arith, found.1), found.2)
      by_test false is (inr none) = inr (λ k within. elim (cases_eq k n) [
        | inl same ↦ ap (λ (m : ℕ). is_of_trip (kind_at kinds m) i) same ∙ is
        | inr other ↦ none k (omega arith)
      ])

  -- a trip has an arc or none
  pub arc_or_none : (i : ℕ) → ((k : ℕ) × IsArcOfTrip kinds i k) ⊎ ((k : ℕ) → ¬ (IsArcOfTrip kinds i k))
  arc_or_none i =
      elim (arc_below i (length kinds)) [
        | inl found ↦ inl (found.0, (found.1, of_trip-is (kind_at kinds found.0) i found.2))
        | inr none ↦ inr (λ k arc. false≢true (sym (none k arc.0)
            ∙ (ap (λ (kind : ArcKind). is_of_trip kind i) arc.1 ∙ eq-eqb i i refl)))
      ]
