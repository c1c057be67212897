-- Lists of no more than so many elements, each out of a few, are finitely many; one of finitely many is least.
use Rattle.std.proofs.Common.{◌⊎◌, inl, inr, ℕ, zero, suc, ◌<◌, ◌≤◌, List, [], ◌∷◌, length, map, refl, sym, ap, ◌∙◌, subst, arith, ℤ, ◌≤ℤ◌}
use Rattle.std.specs.Prelude.{Contains, flat_map}
use Rattle.std.specs.List.{All, range_with_len}
use Rattle.std.proofs.lemmas.Int.{by_lt_z, ints}
use Rattle.std.proofs.lemmas.List.{get_or-map, length-map}
use Rattle.std.proofs.lemmas.List.FromFn.{get_or-range_with_len, length-range_with_len}
use Rattle.std.proofs.lemmas.List.Elements.{All-head, All-tail, Contains-append_left, Contains-append_right}
use Rattle.vs_types.proofs.CallerLemmas.{Contains-cons_cases}

-- what a function gives for an element of a list is among what it gives for them all
pub Contains-map : {X Y : Type 0} (f : X → Y) (xs : List X) (x : X) → Contains xs x → Contains (map f xs) (f x)
Contains-map f xs x (k, inside, is) =
    (k, omega (arith, length-map xs f), get_or-map f xs k x (f x) inside ∙ ap f is)

-- the numbers below n are those in order from 0 on
pub Contains-range : (n k : ℕ) → k < n → Contains (range_with_len 0 n) k
Contains-range n k inside = (
  k,
  omega (arith, length-range_with_len 0 n),
  (let is = get_or-range_with_len 0 n k k inside in omega (arith, is)),
)

-- and so is what is among the things that it gives for one
Contains-flat_map : {X Y : Type 0} (f : X → List Y) (xs : List X) (x : X) (y : Y) → Contains xs x → Contains (f x) y
    → Contains (flat_map f xs) y
Contains-flat_map f [] x y (k, inside, is) among = absurd (omega arith)
Contains-flat_map {Y = Y} f (z ∷ xs) x y (zero, inside, is) among =
    Contains-append_left (f z) (flat_map f xs) y (subst (λ (ys : List Y). Contains ys y) (ap f (sym is)) among)
Contains-flat_map f (z ∷ xs) x y (suc k, inside, is) among =
    Contains-append_right (f z) (flat_map f xs) y (Contains-flat_map f xs x y (k, omega arith, is) among)

-- the lists of at most so many elements, each out of a list
abbrev pub lists_upto : {X : Type 0} → List X → ℕ → List (List X)
lists_upto xs zero = [] ∷ []
lists_upto xs (suc m) = [] ∷ flat_map (λ x. map (λ rest. x ∷ rest) (lists_upto xs m)) xs

-- every such list is among them
pub Contains-lists_upto : {X : Type 0} (xs ys : List X) (m : ℕ) → length ys ≤ m → All (Contains xs) ys
    → Contains (lists_upto xs m) ys
Contains-lists_upto xs [] zero short each = (0, omega arith, refl)
Contains-lists_upto xs [] (suc m) short each = (0, omega arith, refl)
Contains-lists_upto xs (y ∷ ys) zero short each = absurd (omega arith)
Contains-lists_upto {X} xs (y ∷ ys) (suc m) short each =
    let after = Contains-lists_upto xs ys m (omega arith) (All-tail (Contains xs) y ys each) in
    let with_first = Contains-map (λ (rest : List X). y ∷ rest) (lists_upto xs m) ys after in
    Contains-append_right ([] ∷ []) (flat_map (λ (x : X). map (λ (rest : List X). x ∷ rest) (lists_upto xs m)) xs)
    (y ∷ ys)
    (Contains-flat_map (λ (x : X). map (λ (rest : List X). x ∷ rest) (lists_upto xs m)) xs y (y ∷ ys)
    (All-head (Contains xs) y ys each) with_first)

-- one of a list of which P holds, and no other of which it holds measures less
pub record IsLeastOf {X : Type 0} (P : X → Type 0) (f : X → ℤ) (xs : List X) (x : X) : Type 0 where
  pub holds : P x
  pub least : (y : X) → Contains xs y → P y → f x ≤ℤ f y

-- P holds of none of them
abbrev pub NoneOf : {X : Type 0} → (X → Type 0) → List X → Type 0
NoneOf {X} P xs = (y : X) → Contains xs y → P y → ⊥

module _ {X : Type 0} (P : X → Type 0) (f : X → ℤ) where
  -- one more in front, of which P doesn't hold
  least-skip : (z : X) (xs : List X) → (P z → ⊥) → (x : X) → IsLeastOf P f xs x → IsLeastOf P f (z ∷ xs) x
  least-skip z xs fails x found = record {
    holds = found.holds;
    least =
        λ y among holds. elim (Contains-cons_cases z xs y among) [
          | inl is ↦ absurd (fails (subst P (sym is) holds))
          | inr later ↦ found.least y later holds
        ];
  }

  -- one more in front, of which P holds, and which measures no less
  least-keep : (z : X) (xs : List X) (x : X) → f x ≤ℤ f z → IsLeastOf P f xs x → IsLeastOf P f (z ∷ xs) x
  least-keep z xs x less found = record {
    holds = found.holds;
    least =
        λ y among holds. elim (Contains-cons_cases z xs y among) [
          | inl is ↦ subst (λ (w : X). f x ≤ℤ f w) is less
          | inr later ↦ found.least y later holds
        ];
  }

  -- the one in front, where it measures no more than any later one
  least-here : (z : X) (xs : List X) → P z → ((y : X) → Contains xs y → P y → f z ≤ℤ f y)
      → IsLeastOf P f (z ∷ xs) z
  least-here z xs here below = record {
    holds = here;
    least =
        λ y among holds. elim (Contains-cons_cases z xs y among) [
          | inl is ↦ subst (λ (w : X). f z ≤ℤ f w) is (omega (arith, ints))
          | inr later ↦ below y later holds
        ];
  }

  -- what is found among the later ones, and whether P holds of the one in front, decide what is found
  least-cons : (z : X) (xs : List X) → Dec (P z) → ((x : X) × IsLeastOf P f xs x) ⊎ NoneOf P xs
      → ((x : X) × IsLeastOf P f (z ∷ xs) x) ⊎ NoneOf P (z ∷ xs)
  least-cons z xs (no fails) (inl (x, found)) = inl (x, least-skip z xs fails x found)
  least-cons z xs (no fails) (inr none) =
      inr
      (λ y among holds.
      elim (Contains-cons_cases z xs y among) [
        | inl is ↦ fails (subst P (sym is) holds)
        | inr later ↦ none y later holds
      ])
  least-cons z xs (yes here) (inr none) =
      inl (z, least-here z xs here (λ y later holds. absurd (none y later holds)))
  least-cons z xs (yes here) (inl (x, found)) =
      by_lt_z (f z) (f x)
      (λ less.
      inl
      (z, least-here z xs here (λ y later holds. let more = found.least y later holds in omega (arith, ints))))
      (λ more. inl (x, least-keep z xs x more found))

  -- of the elements of a list for which P holds, where it is decided for each, one is least, if there is any
  pub least_among : ((x : X) → Dec (P x)) → (xs : List X) → ((x : X) × IsLeastOf P f xs x) ⊎ NoneOf P xs
  least_among each [] = inr (λ y among holds. absurd (omega (arith, among.1)))
  least_among each (z ∷ xs) = least-cons z xs (each z) (least_among each xs)
