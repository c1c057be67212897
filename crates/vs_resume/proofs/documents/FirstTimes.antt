-- Numbers once each, in the order in which they first come.
use Rattle.std.proofs.Common.{◌≡◌, ℕ, ◌==◌, not, Bool, true, false, List, [], ◌∷◌, filter, sym, ap, arith}
use Rattle.std.proofs.lemmas.Bool.{eq-eqb}
use Rattle.std.proofs.lemmas.List.Elements.{All-weaker, filter_passes}
use Rattle.std.proofs.lemmas.List.Kept.{AllPairs-cons, AllPairs-filter}
use Rattle.vs_cert.specs.StateDocument.{first_times}
use Rattle.vs_resume.specs.Writing.{IsOnce}

abbrev others : ℕ → ℕ → Bool
others n m = not (m == n)

-- a number that passes the test is another one
is_other : (n m : ℕ) → others n m ≡ true → ¬ (n ≡ m)
is_other n m passes same =
    let fails : others n m ≡ false = ap not (eq-eqb m n (sym same)) in
    absurd cc

-- none of them stands twice
pub first_times_once : (xs : List ℕ) → IsOnce (first_times xs)
first_times_once [] = λ i j d before below. absurd (omega (arith, below))
first_times_once (n ∷ xs) =
    let Differ : ℕ → ℕ → Type 0 = λ a b. ¬ (a ≡ b) in
    AllPairs-cons Differ n (filter (others n) (first_times xs))
    (All-weaker (λ (m : ℕ). others n m ≡ true) (Differ n) (is_other n) (filter (others n) (first_times xs))
    (filter_passes (others n) (first_times xs)))
    (AllPairs-filter Differ (others n) (first_times xs) (first_times_once xs))
