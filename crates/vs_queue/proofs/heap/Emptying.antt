-- Lists in which nothing is left.
use Rattle.std.proofs.Common.{◌≡◌, ℕ, zero, suc, List, [], ◌∷◌, length, get_or, set, replicate, refl, Option, Some, None}

-- a list of nothing
pub all-none : {X : Type 0} (xs : List (Option X)) → ((i : ℕ) → get_or xs i None ≡ None)
    → xs ≡ replicate (length xs) None
all-none [] none = refl
all-none (x ∷ xs) none =
    let first : x ≡ None = none 0 in
    let rest : xs ≡ replicate (length xs) None = all-none xs (λ i. none (suc i)) in
    cc

-- a place that is emptied is empty
pub emptied-here : {X : Type 0} (xs : List (Option X)) (i : ℕ) → get_or (set xs i None) i None ≡ None
emptied-here [] i = refl
emptied-here (x ∷ xs) zero = refl
emptied-here (x ∷ xs) (suc i) = emptied-here xs i

-- then an empty one stays so
pub emptied-kept : {X : Type 0} (xs : List (Option X)) (i j : ℕ) → get_or xs j None ≡ None
    → get_or (set xs i None) j None ≡ None
emptied-kept [] i j none = none
emptied-kept (x ∷ xs) zero zero none = refl
emptied-kept (x ∷ xs) zero (suc j) none = none
emptied-kept (x ∷ xs) (suc i) zero none = none
emptied-kept (x ∷ xs) (suc i) (suc j) none = emptied-kept xs i j none

-- and what is there was there
pub emptied-was : {X : Type 0} (xs : List (Option X)) (i j : ℕ) (x : X) → get_or (set xs i None) j None ≡ Some x
    → get_or xs j None ≡ Some x
emptied-was [] i j x is = is
emptied-was (y ∷ xs) zero zero x is = absurd (cc)
emptied-was (y ∷ xs) zero (suc j) x is = is
emptied-was (y ∷ xs) (suc i) zero x is = is
emptied-was (y ∷ xs) (suc i) (suc j) x is = emptied-was xs i j x is
