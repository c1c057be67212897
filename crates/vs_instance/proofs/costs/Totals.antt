-- Totals of prices, and the same prices put in another order.
use Rattle.std.proofs.Common.{◌≡◌, ◌≢◌, ℕ, zero, suc, ◌+◌, ◌<◌, ◌≤◌, ◌==◌, Bool, cond, eqb, List, [], ◌∷◌, ◌++◌, map, count_by, refl, sym, ap, ◌∙◌, arith, inl, inr, ℤ, pos, ◌+ℤ◌, ◌-ℤ◌, ◌*ℤ◌, ◌≤ℤ◌}
use Rattle.std.specs.List.{All, range_with_len}
use Rattle.std.proofs.lemmas.Bool.{cases_eq, eq-eqb, ne_eqb}
use Rattle.std.proofs.lemmas.Int.{ints}
use Rattle.std.proofs.lemmas.List.Elements.{All-head, All-tail}
use Rattle.std.proofs.lemmas.List.Sums.{sum_by-cons}
use Rattle.vs_types.proofs.CallerLemmas.{range_more, times_more, times_none}
use Rattle.vs_instance.specs.Lagrangian.{total}

-- the total of two lists is the sum of their totals
pub total-map_append : {A : Type 0} (f : A → ℤ) (xs ys : List A)
    → total (map f (xs ++ ys)) ≡ total (map f xs) +ℤ total (map f ys)
total-map_append f [] ys = omega (arith, ints)
total-map_append f (x ∷ xs) ys = let rest = total-map_append f xs ys in omega (arith, ints)

-- where each is no more, the total is no more
pub total-map_le : {A : Type 0} (f g : A → ℤ) (xs : List A) → All (λ x. f x ≤ℤ g x) xs
    → total (map f xs) ≤ℤ total (map g xs)
total-map_le f g [] each = omega (arith, ints)
total-map_le {A = A} f g (x ∷ xs) each =
    let here = All-head (λ (y : A). f y ≤ℤ g y) x xs each in
    let rest = total-map_le f g xs (All-tail (λ (y : A). f y ≤ℤ g y) x xs each) in
    omega (arith, ints)

-- the same over numbers in order
pub total-range_le : (f g : ℕ → ℤ) (a n : ℕ) → ((k : ℕ) → a ≤ k → k < a + n → f k ≤ℤ g k)
    → total (map f (range_with_len a n)) ≤ℤ total (map g (range_with_len a n))
total-range_le f g a zero each = omega (arith, ints)
total-range_le f g a (suc n) each =
    let here = each a (omega arith) (omega arith) in
    let rest = total-range_le f g (a + 1) n (λ k from within. each k (omega arith) (omega arith)) in
    omega (arith, ints)

-- a total of sums is the sum of the totals, and one of differences their difference
pub total-map_add : {A : Type 0} (f g : A → ℤ) (xs : List A)
    → total (map (λ x. f x +ℤ g x) xs) ≡ total (map f xs) +ℤ total (map g xs)
total-map_add f g [] = omega (arith, ints)
total-map_add f g (x ∷ xs) = let rest = total-map_add f g xs in omega (arith, ints)

pub total-map_sub : {A : Type 0} (f g : A → ℤ) (xs : List A)
    → total (map (λ x. f x -ℤ g x) xs) ≡ total (map f xs) -ℤ total (map g xs)
total-map_sub f g [] = omega (arith, ints)
total-map_sub f g (x ∷ xs) = let rest = total-map_sub f g xs in omega (arith, ints)

-- nothing for each comes to nothing
pub total-nothing : {A : Type 0} (xs : List A) → total (map (λ x. pos 0) xs) ≡ pos 0
total-nothing [] = refl
total-nothing (x ∷ xs) = let rest = total-nothing xs in omega (arith, ints, rest)

-- numbers in order that give the same have the same total
pub same_totals : (f g : ℕ → ℤ) (a n : ℕ) → ((k : ℕ) → a ≤ k → k < a + n → f k ≡ g k)
    → total (map f (range_with_len a n)) ≡ total (map g (range_with_len a n))
same_totals f g a zero same = refl
same_totals f g a (suc n) same =
    let here = same a (omega arith) (omega arith) in
    let rest = same_totals f g (a + 1) n (λ k from within. same k (omega arith) (omega arith)) in
    omega (arith, ints, here, rest)

-- the total over one number more
pub total-range_next : (f : ℕ → ℤ) (k : ℕ)
    → total (map f (range_with_len 0 (k + 1))) ≡ total (map f (range_with_len 0 k)) +ℤ f k
total-range_next f k =
    let more = ap (λ (ks : List ℕ). total (map f ks)) (range_more 0 k k (omega arith)) in
    let both = total-map_append f (range_with_len 0 k) (k ∷ []) in
    omega (arith, ints, more, both)

module _ (g : ℕ → ℤ) (counts more : ℕ → ℕ) where
  abbrev by_counts : (ℕ → ℕ) → ℕ → ℕ → ℤ
  by_counts c a n = total (map (λ k. g k *ℤ pos (c k)) (range_with_len a n))

  same_counts : (a n : ℕ) → ((k : ℕ) → a ≤ k → more k ≡ counts k) → by_counts more a n ≡ by_counts counts a n
  same_counts a zero same = refl
  same_counts a (suc n) same =
      let here = ap (λ (c : ℕ). g a *ℤ pos c) (same a (omega arith)) in
      let rest = same_counts (a + 1) n (λ k from. same k (omega arith)) in
      omega (arith, ints, here, rest)

  -- the number k counted once more
  one_more : (k : ℕ) → more k ≡ counts k + 1 → ((j : ℕ) → j ≢ k → more j ≡ counts j) → (a n : ℕ) → a ≤ k → k < a + n
      → by_counts more a n ≡ by_counts counts a n +ℤ g k
  one_more k here others a zero from within = absurd (omega arith)
  one_more k here others a (suc n) from within =
      elim (cases_eq a k) [
        | inl same ↦
            let first : g a *ℤ pos (more a) ≡ g a *ℤ pos (counts a) +ℤ g k =
            ap (λ (j : ℕ). g j *ℤ pos (more j)) same
            ∙ ap (λ (c : ℕ). g k *ℤ pos c) here ∙ times_more (g k) (counts k)
            ∙ ap (λ (j : ℕ). g j *ℤ pos (counts j) +ℤ g k) (sym same) in
            let rest = same_counts (a + 1) n (λ j after. others j (λ is. omega arith)) in
            omega (arith, ints, first, rest)
        | inr other ↦
            let first = ap (λ (c : ℕ). g a *ℤ pos c) (others a other) in
            let rest = one_more k here others (a + 1) n (omega arith) (omega arith) in
            omega (arith, ints, first, rest)
      ]

none_counted : (g : ℕ → ℤ) (a n : ℕ) → total (map (λ k. g k *ℤ pos 0) (range_with_len a n)) ≡ pos 0
none_counted g a zero = refl
none_counted g a (suc n) =
    let here = times_none (g a) in
    let rest = none_counted g (a + 1) n in
    omega (arith, ints, here, rest)

module _ {A : Type 0} (g : ℕ → ℤ) (key : A → ℕ) where
  -- how many have the key k
  abbrev pub counted : List A → ℕ → ℕ
  counted xs k = count_by (λ x. key x == k) xs

  counted-cons : (x : A) (xs : List A) (k : ℕ) → counted (x ∷ xs) k ≡ cond (eqb (key x) k) 1 0 + counted xs k
  counted-cons x xs k = sum_by-cons (λ (y : A). cond (eqb (key y) k) 1 0) x xs

  -- a total is the same by how often each key comes
  pub total-by_count : (n : ℕ) (xs : List A) → All (λ x. key x < n) xs
      → total (map (λ x. g (key x)) xs) ≡ total (map (λ k. g k *ℤ pos (counted xs k)) (range_with_len 0 n))
  total-by_count n [] within = sym (none_counted g 0 n)
  total-by_count n (x ∷ xs) within =
      let inside = All-head (λ (y : A). key y < n) x xs within in
      let rest = total-by_count n xs (All-tail (λ (y : A). key y < n) x xs within) in
      let here : counted (x ∷ xs) (key x) ≡ counted xs (key x) + 1 =
      omega (arith, counted-cons x xs (key x), ap {B = ℕ} (λ (b : Bool). cond b 1 0) (eq-eqb (key x) (key x) refl)) in
      let others : (j : ℕ) → j ≢ key x → counted (x ∷ xs) j ≡ counted xs j =
      λ j apart. omega (
        arith,
        counted-cons x xs j,
        ap {B =
            ℕ} (λ (b : Bool). cond b 1 0) (ne_eqb (key x) j (λ same. apart (sym same))),
      ) in
      let more = one_more g (counted xs) (counted (x ∷ xs)) (key x) here others 0 n (omega arith) (omega arith) in
      omega (arith, ints, rest, more)
