-- Each number that a tree's leaves name stands somewhere among them once each.
use Rattle.std.proofs.Common.{◌≡◌, ℕ, zero, suc, ◌+◌, ◌≤◌, ◌==◌, not, Bool, true, false, cond, List, [], ◌∷◌, ◌++◌, length, filter, refl, sym, ap, ◌∙◌, arith, inl, inr, Some, length-append}
use Rattle.std.specs.List.{All, slice_get}
use Rattle.std.proofs.lemmas.Bool.{cases_eq, ne_eqb}
use Rattle.std.proofs.lemmas.List.Elements.{All-cons, All-head, All-nil, All-tail, All-weaker}
use Rattle.std.proofs.lemmas.List.Sums.{count_by-le-length, length-filter}
use Rattle.vs_prices.specs.Tree.{Tree, Leaf, Split, splits}
use Rattle.vs_cert.specs.StateDocument.{IsRenumbered, first_times, tables_named}

abbrev others : ℕ → ℕ → Bool
others n m = not (m == n)

-- a number has a place among some
abbrev pub HasPlace : List ℕ → ℕ → Type 0
HasPlace numbers n = (k : ℕ) × (slice_get numbers k ≡ Some n)

-- one that passes a test has one among those that do
kept_place : (keep : ℕ → Bool) (xs : List ℕ) (n k : ℕ) → slice_get xs k ≡ Some n → keep n ≡ true
    → HasPlace (filter keep xs) n
kept_place keep [] n k at passes = absurd cc
kept_place keep (x ∷ xs) n zero at passes =
    let same : x ≡ n = cc in
    let first : filter keep (x ∷ xs) ≡ x ∷ filter keep xs =
    ap (λ (b : Bool). cond b (x ∷ filter keep xs) (filter keep xs)) (ap keep same ∙ passes) in
    (0, ap (λ (ys : List ℕ). slice_get ys 0) first ∙ ap Some same)
kept_place keep (x ∷ xs) n (suc k) at passes =
    let later = kept_place keep xs n k at passes in
    elim (keep x) as (λ b. HasPlace (cond b (x ∷ filter keep xs) (filter keep xs)) n) [
      | true ↦ (suc later.0, later.1)
      | false ↦ later
    ]

-- where one more number comes first, the others have places still
place-cons : (x : ℕ) (xs : List ℕ) (n : ℕ) → HasPlace xs n → HasPlace (x ∷ filter (others x) xs) n
place-cons x xs n at =
    elim (cases_eq n x) [
      | inl same ↦ (0, ap Some (sym same))
      | inr other ↦
          let kept = kept_place (others x) xs n at.0 at.1 (ap not (ne_eqb n x other)) in
          (suc kept.0, kept.1)
    ]

-- each number has a place among them once each
pub first_places : (xs : List ℕ) → All (HasPlace (first_times xs)) xs
first_places [] = All-nil (HasPlace [])
first_places (x ∷ xs) =
    All-cons (HasPlace (first_times (x ∷ xs))) x xs (0, refl)
    (All-weaker (HasPlace (first_times xs)) (HasPlace (first_times (x ∷ xs)))
    (λ n at. place-cons x (first_times xs) n at) xs (first_places xs))

-- and there are no more than before
pub first_times_few : (xs : List ℕ) → length (first_times xs) ≤ length xs
first_times_few [] = omega arith
first_times_few (n ∷ xs) =
    let rest = first_times_few xs in
    let kept = length-filter (others n) (first_times xs) in
    let fewer = count_by-le-length (others n) (first_times xs) in
    omega (arith, rest, kept, fewer)

-- the tables that a tree names, leaf by leaf, are one more than its splits
pub length-tables_named : (t : Tree) → length (tables_named t) ≡ splits t + 1
length-tables_named (Leaf table) = refl
length-tables_named (Split trip left lower upper) =
    let both = length-append (tables_named lower) (tables_named upper) in
    omega (arith, both, length-tables_named lower, length-tables_named upper)

-- what is true of the elements of two lists together is true of those of each
all-front : (P : ℕ → Type 0) (xs ys : List ℕ) → All P (xs ++ ys) → All P xs
all-front P [] ys each = All-nil P
all-front P (x ∷ xs) ys each =
    All-cons P x xs (All-head P x (xs ++ ys) each) (all-front P xs ys (All-tail P x (xs ++ ys) each))

all-back : (P : ℕ → Type 0) (xs ys : List ℕ) → All P (xs ++ ys) → All P ys
all-back P [] ys each = each
all-back P (x ∷ xs) ys each = all-back P xs ys (All-tail P x (xs ++ ys) each)

-- a tree whose leaves name their tables by such places
pub renumber : (numbers : List ℕ) (t : Tree) → All (HasPlace numbers) (tables_named t)
    → (u : Tree) × IsRenumbered numbers t u
renumber numbers (Leaf table) each =
    let at = All-head (HasPlace numbers) table [] each in
    (Leaf at.0, at.1)
renumber numbers (Split trip left lower upper) each =
    let first = renumber numbers lower
    (all-front (HasPlace numbers) (tables_named lower) (tables_named upper) each) in
    let second = renumber numbers upper
    (all-back (HasPlace numbers) (tables_named lower) (tables_named upper) each) in
    (Split trip left first.0 second.0, (refl, refl, first.1, second.1))
