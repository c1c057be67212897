-- How many leaves of an answer aren't below its cost.
use Rattle.std.proofs.Common.{◌≡◌, ℕ, zero, suc, ◌+◌, ◌<◌, ◌≤◌, ◌==◌, not, Bool, true, false, cond, List, [], ◌∷◌, length, sum_by, refl, ap, arith, inl, inr}
use Rattle.std.proofs.lemmas.Bool.{cases_eq, cases_lt, eq-eqb, ne_eqb}
use Rattle.std.proofs.lemmas.List.Sums.{sum_by-cons}
use Rattle.vs_prices.specs.declared.bound.Bound.{Bound}
use Rattle.vs_tree.specs.declared.spot.Spot.{Spot}
use Rattle.vs_tree.specs.declared.spot.Spot.TheVariants.{Inner, Free, Held, Closed}
use Rattle.vs_tree.specs.History.{Opening, Place, State, IsLeafWorth, count_spots, is_closed, is_inner, known, place_at, spot_at}
use Rattle.vs_tree.specs.Sound.{IsSound}
use Rattle.vs_tree.specs.StateTree.{one_if, times}
use Rattle.vs_tree.proofs.CallerLemmas.{times-cons}
use Rattle.vs_cert.specs.Answers.{count_not_below, is_below}
use Rattle.vs_cert.proofs.AnswerBounds.{no_below}
use Rattle.vs_cert.proofs.AnswerWorths.{AreSpotWorths}

-- what the numbers below another have together
abbrev sum_to : (ℕ → ℕ) → ℕ → ℕ
sum_to f zero = 0
sum_to f (suc n) = f n + sum_to f n

sum_to-first : (f : ℕ → ℕ) (n : ℕ) → sum_to f (suc n) ≡ f 0 + sum_to (λ k. f (suc k)) n
sum_to-first f zero = refl
sum_to-first f (suc n) = let before = sum_to-first f n in omega (arith, before)

-- as a list has it by places
count-sum_to : (kind : Spot → Bool) (places : List Place)
    → count_spots kind places ≡ sum_to (λ k. one_if (kind (place_at places k).spot)) (length places)
count-sum_to kind [] = refl
count-sum_to kind (q ∷ places) =
    let rest = count-sum_to kind places in
    let all = sum_by-cons (λ (r : Place). cond (kind r.spot) 1 0) q places in
    let first = sum_to-first (λ k. one_if (kind (place_at (q ∷ places) k).spot)) (length places) in
    omega (arith, rest, all, first)

-- where the number m has nothing
abbrev without : (ℕ → ℕ) → ℕ → ℕ → ℕ
without f m k = cond (k == m) 0 (f k)

without-less : (f : ℕ → ℕ) (m k : ℕ) → without f m k ≤ f k
without-less f m k = elim (k == m) as (λ b. cond b 0 (f k) ≤ f k) [ true ↦ omega arith | false ↦ omega arith ]

sum_to-without : (f : ℕ → ℕ) (m n : ℕ) → n ≤ m → sum_to (without f m) n ≡ sum_to f n
sum_to-without f m zero low = refl
sum_to-without f m (suc n) low =
    let before = sum_to-without f m n (omega (arith, low)) in
    let same : without f m n ≡ f n = ap (λ (b : Bool). cond b 0 (f n)) (ne_eqb n m (λ is. omega (arith, low, is))) in
    omega (arith, before, same)

sum_by-without : (f : ℕ → ℕ) (m : ℕ) (spots : List ℕ) → sum_by (without f m) spots ≤ sum_by f spots
sum_by-without f m [] = omega arith
sum_by-without f m (k ∷ spots) =
    omega (
      arith,
      sum_by-without f m spots,
      without-less f m k,
      sum_by-cons (without f m) k spots,
      sum_by-cons f k spots,
    )

-- and m stands among the spots
sum_by-with : (f : ℕ → ℕ) (m : ℕ) (spots : List ℕ) → 1 ≤ times m spots
    → f m + sum_by (without f m) spots ≤ sum_by f spots
sum_by-with f m [] stands = absurd (omega (arith, stands))
sum_by-with f m (k ∷ spots) stands =
    let less = sum_by-cons (without f m) k spots in
    let all = sum_by-cons f k spots in
    elim (cases_eq k m) [
      | inl same ↦
          let none : without f m k ≡ 0 = ap (λ (b : Bool). cond b 0 (f k)) (eq-eqb k m same) in
          let here : f k ≡ f m = ap f same in
          omega (arith, less, all, none, here, sum_by-without f m spots)
      | inr other ↦
          let apart = ap {B = ℕ} (λ (b : Bool). cond b 1 0) (ne_eqb k m other) in
          let there = sum_by-with f m spots (omega (arith, stands, times-cons m k spots, apart)) in
          omega (arith, less, all, there, without-less f m k)
    ]

-- spots have together at least what numbers have that each stand among them as often
sum_to-spots : (f : ℕ → ℕ) (n : ℕ) (spots : List ℕ) → ((k : ℕ) → f k ≤ times k spots) → sum_to f n ≤ sum_by f spots
sum_to-spots f zero spots each = omega arith
sum_to-spots f (suc m) spots each =
    let before =
    sum_to-spots (without f m) m spots (λ k. omega (arith, without-less f m k, each k)) in
    let same = sum_to-without f m m (omega arith) in
    elim (cases_lt 0 (times m spots)) [
      | inl stands ↦ omega (arith, before, same, sum_by-with f m spots (omega (arith, stands)))
      | inr none ↦ omega (arith, before, same, each m, none, sum_by-without f m spots)
    ]

module _ (o : Opening) (s : State) (sound : IsSound o s) where
  abbrev pub is_closed_at : ℕ → ℕ
  is_closed_at k = one_if (is_closed (spot_at s k))

  -- a spot that is closed isn't split
  pub one_kind : (spot : Spot) → one_if (is_closed spot) + one_if (is_inner spot) ≤ 1
  one_kind (Inner trip left lower upper) = omega arith
  one_kind (Free table) = omega arith
  one_kind (Held worker table) = omega arith
  one_kind (Closed table) = omega arith

  -- the worth of a closed leaf isn't below the cost
  closed_worth : (k : ℕ) (worth : Bound) → IsLeafWorth o.problem s k worth
      → is_closed_at k ≤ cond (not (is_below (known s) worth)) 1 0
  closed_worth k worth is_worth = by_spot (spot_at s k) refl
    where
      by_spot : (spot : Spot) → spot_at s k ≡ spot → is_closed_at k ≤ cond (not (is_below (known s) worth)) 1 0
      by_spot (Inner trip left lower upper) at =
          let none = ap {B = ℕ} (λ (x : Spot). one_if (is_closed x)) at in
          omega (arith, none)
      by_spot (Free table) at =
          let none = ap {B = ℕ} (λ (x : Spot). one_if (is_closed x)) at in
          omega (arith, none)
      by_spot (Held worker table) at =
          let none = ap {B = ℕ} (λ (x : Spot). one_if (is_closed x)) at in
          omega (arith, none)
      by_spot (Closed table) at =
          let one = ap {B = ℕ} (λ (x : Spot). one_if (is_closed x)) at in
          let out = no_below (known s) worth (sound.closed k worth (table, at) is_worth) in
          let counts = ap {B = ℕ} (λ (b : Bool). cond (not b) 1 0) out in
          omega (arith, one, counts)

  closed_worths : (spots : List ℕ) (worths : List Bound) → AreSpotWorths o.problem s spots worths
      → sum_by is_closed_at spots ≤ count_not_below (known s) worths
  closed_worths [] [] are = omega arith
  closed_worths [] (w ∷ worths) are = absurd are
  closed_worths (k ∷ spots) [] are = absurd are
  closed_worths (k ∷ spots) (w ∷ worths) are =
      omega (
        arith,
        closed_worths spots worths are.2,
        closed_worth k w are.1,
        sum_by-cons is_closed_at k spots,
        sum_by-cons (λ (worth : Bound). cond (not (is_below (known s) worth)) 1 0) w worths,
      )

  -- each closed leaf stands among the spots
  pub closed_at_spots : (spots : List ℕ)
      → ((k : ℕ) → times k spots + one_if (is_inner (place_at s.places k).spot) ≡ 1)
      → count_spots is_closed s.places ≤ sum_by is_closed_at spots
  closed_at_spots spots once =
      omega (
        arith,
        count-sum_to is_closed s.places,
        sum_to-spots is_closed_at (length s.places) spots (λ k. omega (arith, once k, one_kind (spot_at s k))),
      )

  -- as many worths as there are closed leaves aren't below the cost
  pub closed_leaves : (spots : List ℕ) (worths : List Bound)
      → ((k : ℕ) → times k spots + one_if (is_inner (place_at s.places k).spot) ≡ 1)
      → AreSpotWorths o.problem s spots worths → count_spots is_closed s.places ≤ count_not_below (known s) worths
  closed_leaves spots worths once are =
      omega (arith, closed_at_spots spots once, closed_worths spots worths are)

-- where there is a spot of a kind, some are of it
pub kind_counts : (kind : Spot → Bool) (places : List Place) (k : ℕ) → k < length places
    → kind (place_at places k).spot ≡ true → 1 ≤ count_spots kind places
kind_counts kind [] k within is = absurd (omega (arith, within))
kind_counts kind (q ∷ places) zero within is =
    let one = ap {B = ℕ} (λ (b : Bool). cond b 1 0) is in
    omega (arith, one, sum_by-cons (λ (r : Place). cond (kind r.spot) 1 0) q places)
kind_counts kind (q ∷ places) (suc k) within is =
    omega (
      arith,
      kind_counts kind places k (omega (arith, within)) is,
      sum_by-cons (λ (r : Place). cond (kind r.spot) 1 0) q places,
    )
