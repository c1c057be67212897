-- A list of numbers in which one is set.
use Rattle.std.proofs.Common.{◌≢◌, ℕ, ◌<◌, List, length, get_or, set, sym, subst, inl, inr, ℤ, pos, get_or-set_other, get_or-set_same}
use Rattle.std.proofs.lemmas.Bool.{cases_eq}

-- what holds of it at its place, and of each other number at its own, holds of each
pub each_after_set : (P : ℕ → ℤ → Type 0) (numbers : List ℤ) (i : ℕ) (number : ℤ) → i < length numbers
    → ((k : ℕ) → k ≢ i → P k (get_or numbers k (pos 0))) → P i number
    → (k : ℕ) → P k (get_or (set numbers i number) k (pos 0))
each_after_set P numbers i number inside others this k =
    let now : ℕ → Type 0 = λ j. P j (get_or (set numbers i number) j (pos 0)) in
    let here : now i = subst (P i) (sym (get_or-set_same numbers i number (pos 0) inside)) this in
    elim (cases_eq k i) [
      | inl same ↦ subst now (sym same) here
      | inr other ↦ subst (P k) (sym (get_or-set_other numbers i k number (pos 0) other)) (others k other)
    ]
