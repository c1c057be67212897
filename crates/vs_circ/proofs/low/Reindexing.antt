-- Totals over numbers in order.
use Rattle.std.proofs.Common.{◌≡◌, ◌≢◌, ℕ, zero, suc, ◌+◌, ◌<◌, ◌≤◌, List, [], ◌∷◌, length, map, get_or, refl, sym, ap, ◌∙◌, arith, inl, inr, add-one, ℤ, pos, ◌+ℤ◌, ◌*ℤ◌}
use Rattle.std.specs.List.{range_with_len}
use Rattle.std.proofs.lemmas.Bool.{cases_eq}
use Rattle.std.proofs.lemmas.Int.{ints}
use Rattle.vs_instance.specs.Lagrangian.{total}
use Rattle.vs_instance.proofs.CallerLemmas.{total-map_add, total-nothing}

-- a function of each number from a on, so many of them, added up
abbrev pub over_range : (ℕ → ℤ) → ℕ → ℕ → ℤ
over_range f a n = total (map f (range_with_len a n))

-- where each is the same, the total is the same
pub total-same : (f g : ℕ → ℤ) (a n : ℕ) → ((k : ℕ) → a ≤ k → k < a + n → f k ≡ g k)
    → over_range f a n ≡ over_range g a n
total-same f g a zero same = refl
total-same f g a (suc n) same =
    let here = same a (omega arith) (omega arith) in
    let rest = total-same f g (a + 1) n (λ k from within. same k (omega arith) (omega arith)) in
    omega (arith, ints, here, rest)

-- where no number counts, the total is nothing
pub total-none : (f : ℕ → ℤ) (a n : ℕ) → ((k : ℕ) → a ≤ k → k < a + n → f k ≡ pos 0) → over_range f a n ≡ pos 0
total-none f a n none = total-same f (λ k. pos 0) a n none ∙ total-nothing (range_with_len a n)

-- where one number alone counts, it is the total
pub total-only : (f : ℕ → ℤ) (j a n : ℕ) → a ≤ j → j < a + n
    → ((k : ℕ) → k < a + n → k ≢ j → f k ≡ pos 0) → over_range f a n ≡ f j
total-only f j a zero from within others = absurd (omega arith)
total-only f j a (suc n) from within others =
    elim (cases_eq a j) [
      | inl same ↦
          let here = ap f same in
          let rest = total-none f (a + 1) n (λ k after inside. others k (omega arith) (λ is. omega arith)) in
          omega (arith, ints, here, rest)
      | inr other ↦
          let here = others a (omega arith) other in
          let rest = total-only f j (a + 1) n (omega arith) (omega arith) (λ k inside. others k (omega arith)) in
          omega (arith, ints, here, rest)
    ]

-- sums of sums may be taken in either order
pub total-swap : {A B : Type 0} (f : A → B → ℤ) (xs : List A) (ys : List B)
    → total (map (λ x. total (map (λ y. f x y) ys)) xs) ≡ total (map (λ y. total (map (λ x. f x y) xs)) ys)
total-swap f [] ys = sym (total-nothing ys)
total-swap f (x ∷ xs) ys =
    let rest = total-swap f xs ys in
    let both = total-map_add (λ y. f x y) (λ y. total (map (λ z. f z y) xs)) ys in
    omega (arith, ints, rest, both)

-- numbers counted from one further on
total-shift : (f : ℕ → ℤ) (a n : ℕ) → over_range f (a + 1) n ≡ over_range (λ k. f (suc k)) a n
total-shift f a zero = refl
total-shift f a (suc n) =
    let here = ap f (add-one a) in
    let rest = total-shift f (a + 1) n in
    omega (arith, ints, here, rest)

module _ {A : Type 0} (f : A → ℤ) (d : A) where
  -- an amount for each of a list, times its units, added up
  abbrev pub for_units : List A → List ℕ → ℤ
  for_units [] units = pos 0
  for_units (x ∷ xs) [] = pos 0
  for_units (x ∷ xs) (n ∷ units) = (f x *ℤ pos n) +ℤ for_units xs units

  -- the same by their numbers
  pub for_units-by_number : (xs : List A) (units : List ℕ) → length units ≡ length xs
      → for_units xs units ≡ over_range (λ k. f (get_or xs k d) *ℤ pos (get_or units k 0)) 0 (length xs)
  for_units-by_number [] units same = refl
  for_units-by_number (x ∷ xs) [] same = absurd (omega arith)
  for_units-by_number (x ∷ xs) (n ∷ units) same =
      let rest = for_units-by_number xs units (omega arith) in
      let shifted = total-shift (λ k. f (get_or (x ∷ xs) k d) *ℤ pos (get_or (n ∷ units) k 0)) 0 (length xs) in
      omega (arith, ints, rest, shifted)
