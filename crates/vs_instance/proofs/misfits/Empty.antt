-- When nothing is wrong in lists in a row.
use Rattle.std.proofs.Common.{◌≡◌, ℕ, zero, suc, ◌+◌, ◌<◌, ◌≤◌, Bool, true, false, List, [], ◌∷◌, ◌++◌, length, get_or, refl, subst, arith}
use Rattle.std.proofs.Common.{inl, inr}
use Rattle.std.proofs.lemmas.Bool.{cases_eq}
use Rattle.std.specs.List.{flat_map, enumerate_from, range_with_len}
use Rattle.vs_instance.specs.Firsts.{when}

-- the list is empty
abbrev pub None : {M : Type 0} → List M → Type 0
None ms = ms ≡ []

pub false_from_none : {M : Type 0} (b : Bool) (m : M) → None (when b m) → b ≡ false
false_from_none true m e = cc
false_from_none false m e = refl

pub none_from_false : {M : Type 0} (b : Bool) (m : M) → b ≡ false → None (when b m)
none_from_false true m e = cc
none_from_false false m e = refl

pub both_none : {M : Type 0} (xs ys : List M) → None (xs ++ ys) → None xs × None ys
both_none [] ys e = (refl, e)
both_none (x ∷ xs) ys e = cc

pub none-append : {M : Type 0} (xs ys : List M) → None xs → None ys → None (xs ++ ys)
none-append [] ys e f = f
none-append (x ∷ xs) ys e f = cc

module _ {X M : Type 0} (f : ℕ → X → List M) where
  pub each_none : (n : ℕ) (xs : List X) → None (flat_map (λ e. f e.0 e.1) (enumerate_from n xs))
      → (k j : ℕ) (d : X) → k < length xs → n + k ≡ j → None (f j (get_or xs k d))
  each_none n [] e k j d within is = absurd (omega arith)
  each_none n (x ∷ xs) e zero j d within is =
      let here : n ≡ j = omega arith in
      subst (λ (i : ℕ). None (f i x)) here
      (both_none (f n x) (flat_map (λ e. f e.0 e.1) (enumerate_from (n + 1) xs)) e).0
  each_none n (x ∷ xs) e (suc k) j d within is =
      each_none (n + 1) xs (both_none (f n x) (flat_map (λ e. f e.0 e.1) (enumerate_from (n + 1) xs)) e).1 k j d
      (omega arith) (omega arith)

  pub none_each : (n : ℕ) (xs : List X) → ((k j : ℕ) (d : X) → k < length xs → n + k ≡ j → None (f j (get_or xs k d)))
      → None (flat_map (λ e. f e.0 e.1) (enumerate_from n xs))
  none_each n [] each = refl
  none_each n (x ∷ xs) each =
      none-append (f n x) (flat_map (λ e. f e.0 e.1) (enumerate_from (n + 1) xs))
      (each 0 n x (omega arith) (omega arith))
      (none_each (n + 1) xs (λ k j d within is. each (suc k) j d (omega arith) (omega arith)))

module _ {M : Type 0} (f : ℕ → List M) where
  pub number_none : (a n : ℕ) → None (flat_map f (range_with_len a n)) → (k : ℕ) → a ≤ k → k < a + n → None (f k)
  number_none a zero e k from within = absurd (omega arith)
  number_none a (suc n) e k from within =
      let parts = both_none (f a) (flat_map f (range_with_len (a + 1) n)) e in
      elim (cases_eq a k) [
        | inl same ↦ subst (λ (i : ℕ). None (f i)) same parts.0
        | inr other ↦ number_none (a + 1) n parts.1 k (omega arith) (omega arith)
      ]

  pub none_numbers : (a n : ℕ) → ((k : ℕ) → a ≤ k → k < a + n → None (f k)) → None (flat_map f (range_with_len a n))
  none_numbers a zero each = refl
  none_numbers a (suc n) each =
      none-append (f a) (flat_map f (range_with_len (a + 1) n)) (each a (omega arith) (omega arith))
      (none_numbers (a + 1) n (λ k from within. each k (omega arith) (omega arith)))
