-- The first that is wrong of lists in a row, as a loop over them finds it.
use Rattle.std.proofs.Common.{◌≡◌, ℕ, suc, ◌+◌, ◌-◌, ◌<◌, ◌≤◌, List, [], ◌∷◌, ◌++◌, length, get_or, drop, refl, sym, ap, ◌∙◌, arith}
use Rattle.std.specs.List.{flat_map, enumerate_from, range_with_len}
use Rattle.std.specs.declared.option.Option.{Option}
use Rattle.std.specs.declared.option.Option.TheVariants.{None, Some}
use Rattle.std.proofs.lemmas.List.{drop_more, drop_all}
use Rattle.std.proofs.lemmas.Option.{none-some}
use Rattle.vs_instance.specs.Firsts.{first}

-- a list with no first is passed over, and the first of one that has it is the first of all
pub first-skip : {M : Type 0} (xs ys : List M) → first xs ≡ None → first (xs ++ ys) ≡ first ys
first-skip [] ys none = refl
first-skip (x ∷ xs) ys none = absurd (none-some x (sym none))

pub first-stop : {M : Type 0} (xs ys : List M) (m : M) → first xs ≡ Some m → first (xs ++ ys) ≡ Some m
first-stop [] ys m is = absurd (none-some m is)
first-stop (x ∷ xs) ys m is = is

pub none_from_first : {M : Type 0} (xs : List M) → first xs ≡ None → xs ≡ []
none_from_first [] none = refl
none_from_first (x ∷ xs) none = absurd (none-some x (sym none))

-- the first of the items from number n on
abbrev pub first_from : {X M : Type 0} → (ℕ → X → List M) → ℕ → List X → Option M
first_from f n xs = first (flat_map (λ e. f e.0 e.1) (enumerate_from n xs))

module _ {X M : Type 0} (f : ℕ → X → List M) (xs : List X) where
  pub first_from-more : (i : ℕ) (d : X) → i < length xs → first (f i (get_or xs i d)) ≡ None
      → first_from f (i + 1) (drop (i + 1) xs) ≡ first_from f i (drop i xs)
  first_from-more i d within none =
      sym (ap (first_from f i) (drop_more xs i d within)
      ∙ first-skip (f i (get_or xs i d)) (flat_map (λ e. f e.0 e.1) (enumerate_from (i + 1) (drop (i + 1) xs))) none)

  pub first_from-here : (i : ℕ) (d : X) (m : M) → i < length xs → first (f i (get_or xs i d)) ≡ Some m
      → first_from f i (drop i xs) ≡ Some m
  first_from-here i d m within is =
      ap (first_from f i) (drop_more xs i d within)
      ∙ first-stop (f i (get_or xs i d)) (flat_map (λ e. f e.0 e.1) (enumerate_from (i + 1) (drop (i + 1) xs))) m is

  pub first_from-past : (i : ℕ) → length xs ≤ i → first_from f i (drop i xs) ≡ None
  first_from-past i past = ap (first_from f i) (drop_all i xs past)

-- the first of the numbers from i on that are below n
abbrev pub first_below : {M : Type 0} → (ℕ → List M) → ℕ → ℕ → Option M
first_below f i n = first (flat_map f (range_with_len i (n - i)))

module _ {M : Type 0} (f : ℕ → List M) (i n : ℕ) where
  one_fewer : i < n → n - i ≡ suc (n - (i + 1))
  one_fewer within = omega arith

  pub first_below-more : i < n → first (f i) ≡ None → first_below f (i + 1) n ≡ first_below f i n
  first_below-more within none =
      sym (ap (λ (k : ℕ). first (flat_map f (range_with_len i k))) (one_fewer within)
      ∙ first-skip (f i) (flat_map f (range_with_len (i + 1) (n - (i + 1)))) none)

  pub first_below-here : (m : M) → i < n → first (f i) ≡ Some m → first_below f i n ≡ Some m
  first_below-here m within is =
      ap (λ (k : ℕ). first (flat_map f (range_with_len i k))) (one_fewer within)
      ∙ first-stop (f i) (flat_map f (range_with_len (i + 1) (n - (i + 1)))) m is

  pub first_below-past : n ≤ i → first_below f i n ≡ None
  first_below-past past =
      let none : n - i ≡ 0 = omega arith in
      ap (λ (k : ℕ). first (flat_map f (range_with_len i k))) none

-- lists that are all empty have no first
pub flat_map-none : {X M : Type 0} (f : X → List M) (xs : List X) → ((x : X) → f x ≡ []) → flat_map f xs ≡ []
flat_map-none f [] none = refl
flat_map-none f (x ∷ xs) none = ap (λ l. l ++ flat_map f xs) (none x) ∙ flat_map-none f xs none

module _ {M : Type 0} (f : ℕ → List M) (i n : ℕ) (all : Option M) (so_far : first_below f i n ≡ all) where
  pub first_below-step : i < n → None ≡ first (f i) → first_below f (i + 1) n ≡ all
  first_below-step within none = first_below-more f i n within (sym none) ∙ so_far

  pub first_below-found : (m : M) → i < n → Some m ≡ first (f i) → Some m ≡ all
  first_below-found m within is = sym (first_below-here f i n m within (sym is)) ∙ so_far
