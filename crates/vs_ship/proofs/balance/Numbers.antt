-- Products and totals of whole numbers, once a number of them changes.
use Rattle.std.proofs.Common.{◌≡◌, ◌≢◌, ℕ, zero, suc, ◌+◌, ◌<◌, ◌≤◌, List, [], ◌∷◌, map, length, set, refl, sym, ap, ◌∙◌, arith, inl, inr, ℤ, pos, negsuc, ◌+ℤ◌, ◌-ℤ◌, ◌*ℤ◌, ◌≤ℤ◌}
use Rattle.std.specs.List.{range_with_len}
use Rattle.std.specs.Int.{int_max}
use Rattle.std.proofs.Math.Nat.{mul-add}
use Rattle.std.proofs.lemmas.Bool.{cases_eq}
use Rattle.std.proofs.lemmas.Int.{ints, clamps}
use Rattle.vs_types.proofs.CallerLemmas.{times_more}
use Rattle.vs_instance.specs.Lagrangian.{total}
use Rattle.vs_path.specs.Residual.{price_at}

-- the same where the other factor is below 0
times_less : (x : ℤ) (n : ℕ) → x *ℤ negsuc (suc n) +ℤ x ≡ x *ℤ negsuc n
times_less (pos m) n = let product = mul-add m (suc n) 1 in omega (arith, ints)
times_less (negsuc m) n = let product = mul-add (suc m) (suc n) 1 in omega (arith, ints)

times_minus_one : (x : ℤ) → x *ℤ negsuc zero +ℤ x ≡ x *ℤ pos 0
times_minus_one (pos m) = omega (arith, ints)
times_minus_one (negsuc m) = omega (arith, ints)

times_suc_below : (x : ℤ) (n : ℕ) → x *ℤ negsuc n +ℤ x ≡ x *ℤ (negsuc n +ℤ pos 1)
times_suc_below x zero = times_minus_one x
times_suc_below x (suc n) =
    let e : negsuc n ≡ negsuc (suc n) +ℤ pos 1 = omega (arith, ints) in
    times_less x n ∙ ap (λ (z : ℤ). x *ℤ z) e

-- the same where the other factor is any whole number
pub times_suc : (x z : ℤ) → x *ℤ (z +ℤ pos 1) ≡ x *ℤ z +ℤ x
times_suc x (pos n) = times_more x n
times_suc x (negsuc n) = sym (times_suc_below x n)

pub times_pred : (x z : ℤ) → x *ℤ (z -ℤ pos 1) ≡ x *ℤ z -ℤ x
times_pred x z =
    let back : (z -ℤ pos 1) +ℤ pos 1 ≡ z = omega (arith, ints) in
    let product = ap (λ (y : ℤ). x *ℤ y) back in
    let more = times_suc x (z -ℤ pos 1) in
    omega (arith, ints, product, more)

-- the total of numbers, one of which changes
pub total-set : (xs : List ℤ) (i : ℕ) (y : ℤ) → i < length xs
    → total (set xs i y) ≡ (total xs -ℤ price_at xs i) +ℤ y
total-set [] i y within = absurd (omega arith)
total-set (x ∷ xs) zero y within = omega (arith, ints)
total-set (x ∷ xs) (suc i) y within = let rest = total-set xs i y (omega arith) in omega (arith, ints)

module _ (f g : ℕ → ℤ) where
  -- the same of what is counted for the numbers in order
  pub total-range_same : (a n : ℕ) → ((k : ℕ) → a ≤ k → k < a + n → f k ≡ g k)
      → total (map f (range_with_len a n)) ≡ total (map g (range_with_len a n))
  total-range_same a zero same = refl
  total-range_same a (suc n) same =
      let here = same a (omega arith) (omega arith) in
      let rest = total-range_same (a + 1) n (λ k from within. same k (omega arith) (omega arith)) in
      omega (arith, ints, here, rest)

  pub total-range_but : (a n i : ℕ) → a ≤ i → i < a + n → ((k : ℕ) → k ≢ i → f k ≡ g k)
      → total (map f (range_with_len a n)) ≡ total (map g (range_with_len a n)) +ℤ (f i -ℤ g i)
  total-range_but a zero i from within same = absurd (omega arith)
  total-range_but a (suc n) i from within same =
      elim (cases_eq a i) [
        | inl is ↦
            let rest = total-range_same (a + 1) n (λ k after below. same k (λ e. omega arith)) in
            let here = ap (λ (k : ℕ). f k -ℤ g k) is in
            omega (arith, ints, here, rest)
        | inr other ↦
            let here = same a other in
            let rest = total-range_but (a + 1) n i (omega arith) (omega arith) same in
            omega (arith, ints, here, rest)
      ]

-- what is above 0, where a number above 0 falls by one and where one below 0 rises by one
pub above-pred : (s : ℤ) → pos 1 ≤ℤ s → int_max (pos 0) (s -ℤ pos 1) ≡ int_max (pos 0) s -ℤ pos 1
above-pred s some = omega (arith, ints, clamps)

pub above-suc : (s : ℤ) → s ≤ℤ (pos 0 -ℤ pos 1) → int_max (pos 0) (s +ℤ pos 1) ≡ int_max (pos 0) s
above-suc s lacks = omega (arith, ints, clamps)

-- of numbers no greater than 0 that add up to 0 each is 0
pub none-above : (xs : List ℤ) → ((i : ℕ) → price_at xs i ≤ℤ pos 0) → total xs ≤ℤ pos 0
none-above [] each = omega (arith, ints)
none-above (x ∷ xs) each =
    let here = each 0 in
    let rest = none-above xs (λ i. each (suc i)) in
    omega (arith, ints)

pub all-none : (xs : List ℤ) → ((i : ℕ) → price_at xs i ≤ℤ pos 0) → total xs ≡ pos 0 → (i : ℕ) → price_at xs i ≡ pos 0
all-none [] each even i = refl
all-none (x ∷ xs) each even zero =
    let rest = none-above xs (λ i. each (suc i)) in
    let here = each 0 in
    omega (arith, ints)
all-none (x ∷ xs) each even (suc i) =
    let rest = none-above xs (λ j. each (suc j)) in
    let here = each 0 in
    all-none xs (λ j. each (suc j)) (omega (arith, ints)) i

pub total-none : (xs : List ℤ) → ((i : ℕ) → price_at xs i ≡ pos 0) → total xs ≡ pos 0
total-none [] none = refl
total-none (x ∷ xs) none =
    let here = none 0 in
    let rest = total-none xs (λ i. none (suc i)) in
    omega (arith, ints, here, rest)
