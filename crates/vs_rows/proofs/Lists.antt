-- What holds of the items of lists.
use Rattle.std.proofs.Common.{◌≡◌, ℕ, ◌<◌, List, [], ◌∷◌, ◌++◌, get_or, subst, arith, All, Some}
use Rattle.std.specs.List.{range_with_len, slice_get}
use Rattle.std.proofs.lemmas.List.Elements.{All-cons, All-from_get_or, All-head, All-nil, All-tail}
use Rattle.std.proofs.lemmas.List.FromFn.{get_or-range_with_len, length-range_with_len}
use Rattle.std.proofs.lemmas.Option.{get_or_from_slice_get, slice_get_within}

-- what holds of everything holds of all
pub every : {X : Type 0} (P : X → Type 0) (xs : List X) → ((x : X) → P x) → All P xs
every P xs each k d within = each (get_or xs k d)

-- numbers of a list of so many are below them
pub all_below : (n : ℕ) → All (λ k. k < n) (range_with_len 0 n)
all_below n = All-from_get_or (λ k. k < n) (range_with_len 0 n) 0
    (λ i within.
    let i_below : i < n = omega (arith, length-range_with_len 0 n) in
    omega (arith, get_or-range_with_len 0 n i 0 i_below))

-- what is true of each item is true of the one at a place
pub all_at : {X : Type 0} (P : X → Type 0) (xs : List X) (k : ℕ) (x : X) → All P xs → slice_get xs k ≡ Some x → P x
all_at P xs k x each stands =
    subst P (get_or_from_slice_get xs k x x stands) (each k x (slice_get_within xs k x stands))

-- what holds of each element of two lists in a row holds of each element of both
pub All-both : {X : Type 0} (P : X → Type 0) (xs ys : List X) → All P (xs ++ ys) → All P xs × All P ys
All-both P [] ys each = (All-nil P, each)
All-both P (x ∷ xs) ys each =
    let rest = All-both P xs ys (All-tail P x (xs ++ ys) each) in
    (All-cons P x xs (All-head P x (xs ++ ys) each) rest.0, rest.1)
