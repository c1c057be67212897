-- Statements that hold or don't, one of the two: those on numbers, and on all of finitely many.
use Rattle.std.proofs.Common.{◌≡◌, inl, inr, ℕ, zero, suc, ◌+◌, ◌-◌, ◌<◌, List, [], ◌∷◌, length, get_or, subst, arith, refl, Option, Some, None}
use Rattle.std.specs.Prelude.{IsSome, IsSomeAnd}
use Rattle.std.specs.List.{All, AllAdjacentBelow}
use native.Mathlib.Decide.{map_dec}
use Rattle.std.proofs.lemmas.Bool.{cases_eq, false≢true}
use Rattle.std.proofs.lemmas.List.{get_or_default}
use Rattle.std.proofs.lemmas.List.Elements.{All-cons, All-head, All-nil, All-tail}

-- two statements are decided together
pub dec_both : {P Q : Type 0} → Dec P → Dec Q → Dec (P × Q)
dec_both (yes p) (yes q) = yes (p, q)
dec_both (yes p) (no none) = no (λ both. none both.1)
dec_both (no none) other = no (λ both. none both.0)

-- numbers are equal, or they aren't
pub dec_eq : (m n : ℕ) → Dec (m ≡ n)
dec_eq m n =
    elim (cases_eq m n) [
      | inl is ↦ yes is
      | inr other ↦ no other
    ]

-- what is decided of each number is decided of all below a bound
pub dec_below : (P : ℕ → Type 0) → ((k : ℕ) → Dec (P k)) → (n : ℕ) → Dec ((k : ℕ) → k < n → P k)
dec_below P each zero = yes (λ k below. absurd (omega arith))
dec_below P each (suc n) =
    map_dec
    (λ both k below.
    elim (cases_eq k n) as (λ _. P k) [
      | inl is ↦ subst P (sym_is k n is) both.1
      | inr other ↦ both.0 k (omega arith)
    ])
    (λ all. ((λ k below. all k (omega arith)), all n (omega arith)))
    (dec_both (dec_below P each n) (each n))
  where
    sym_is : (a b : ℕ) → a ≡ b → b ≡ a
    sym_is a b is = omega arith

-- and of all elements of a list
pub dec_all : {X : Type 0} (P : X → Type 0) → ((x : X) → Dec (P x)) → (xs : List X) → Dec (All P xs)
dec_all P each [] = yes (All-nil P)
dec_all P each (x ∷ xs) =
    map_dec (λ both. All-cons P x xs both.0 both.1) (λ all. (All-head P x xs all, All-tail P x xs all))
    (dec_both (each x) (dec_all P each xs))

-- and of any two that are next to each other
pub dec_adjacent : {X : Type 0} (R : X → X → Type 0) → ((x y : X) → Dec (R x y)) → (e : X) (xs : List X)
    → Dec (AllAdjacentBelow R xs (length xs))
dec_adjacent {X} R each e xs =
    map_dec
    (λ all k d below.
    subst (λ (x : X). R x (get_or xs (k + 1) d)) (get_or_default xs k e d (omega arith))
    (subst (λ (y : X). R (get_or xs k e) y) (get_or_default xs (k + 1) e d below) (all k (omega arith))))
    (λ all k below. all k e (omega arith))
    (dec_below (λ k. R (get_or xs k e) (get_or xs (k + 1) e)) (λ k. each (get_or xs k e) (get_or xs (k + 1) e))
    (length xs - 1))

-- and of what an option has
pub dec_some_and : {X : Type 0} (P : X → Type 0) → ((x : X) → Dec (P x)) → (o : Option X)
    → Dec (IsSomeAnd o P)
dec_some_and P each (Some x) = each x
dec_some_and P each None = no (λ none. none)

-- and whether it has anything
pub dec_some : {X : Type 0} (o : Option X) → Dec (IsSome o)
dec_some (Some x) = yes refl
dec_some None = no (λ none. false≢true none)
