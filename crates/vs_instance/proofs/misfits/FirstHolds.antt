-- What holds of all that is wrong in lists in a row holds of the first.
use Rattle.std.proofs.Common.{◌≡◌, ℕ, zero, suc, ◌+◌, ◌<◌, ◌≤◌, Bool, true, false, List, [], ◌∷◌, length, refl, subst, arith, Some}
use Rattle.std.specs.List.{All, flat_map, enumerate_from, range_with_len}
use Rattle.std.proofs.lemmas.List.Elements.{All-append, All-cons, All-head, All-nil}
use Rattle.std.proofs.lemmas.Option.{none-some, same_Some}
use Rattle.vs_instance.specs.Firsts.{first, when}

module _ {A : Type 0} (P : A → Type 0) where
  -- of the first of some
  pub first_holds : (xs : List A) (x : A) → All P xs → first xs ≡ Some x → P x
  first_holds [] x each is = absurd (none-some x is)
  first_holds (y ∷ xs) x each is = subst P (same_Some y x is) (All-head P y xs each)

  -- of what is there where a test is true
  pub All-when : (b : Bool) (x : A) → (b ≡ true → P x) → All P (when b x)
  All-when true x holds = All-cons P x [] (holds refl) (All-nil P)
  All-when false x holds = All-nil P

  -- of what each number has
  pub All-numbers : (f : ℕ → List A) (a n : ℕ) → ((k : ℕ) → a ≤ k → k < a + n → All P (f k))
      → All P (flat_map f (range_with_len a n))
  All-numbers f a zero each = All-nil P
  All-numbers f a (suc n) each =
      All-append P (f a) (flat_map f (range_with_len (a + 1) n)) (each a (omega arith) (omega arith))
      (All-numbers f (a + 1) n (λ k from within. each k (omega arith) (omega arith)))

  -- of what each element has, by its number
  pub All-each : {X : Type 0} (f : ℕ → X → List A) (n : ℕ) (xs : List X)
      → ((k : ℕ) (x : X) → n ≤ k → k < n + length xs → All P (f k x))
      → All P (flat_map (λ e. f e.0 e.1) (enumerate_from n xs))
  All-each f n [] each = All-nil P
  All-each f n (x ∷ xs) each =
      All-append P (f n x) (flat_map (λ e. f e.0 e.1) (enumerate_from (n + 1) xs))
      (each n x (omega arith) (omega arith))
      (All-each f (n + 1) xs (λ k y from within. each k y (omega arith) (omega arith)))
