-- What holds of each element of a list, once another is pushed.
use Rattle.std.proofs.Common.{◌≡◌, ℕ, ◌+◌, ◌<◌, List, [], ◌∷◌, ◌++◌, length, get_or, sym, subst, inl, inr, arith}
use Rattle.std.proofs.lemmas.Bool.{cases_lt}
use Rattle.std.proofs.lemmas.List.{get_or_append_left, get_or_push}

module _ {X : Type 0} (P : ℕ → X → Type 0) where
  -- what holds of each element, and of the one that is pushed, holds of all
  pub each-push : (xs : List X) (y d : X) (n : ℕ) → length xs ≡ n → ((k : ℕ) → k < n → P k (get_or xs k d)) → P n y
      → (k : ℕ) → k < n + 1 → P k (get_or (xs ++ y ∷ []) k d)
  each-push xs y d n count each here k less =
      elim (cases_lt k n) [
        | inl below ↦
            subst (P k) (sym (get_or_append_left xs (y ∷ []) d k (omega (arith, count, below)))) (each k below)
        | inr last ↦
            let same : n ≡ k = omega (arith, less, last) in
            subst (λ (i : ℕ). P i (get_or (xs ++ y ∷ []) i d)) same
            (subst (P n) (sym (get_or_push xs y d n count)) here)
      ]
