-- Multipliers between two others.
use Rattle.std.proofs.Common.{◌≡◌, ℕ, subst, arith, ℤ}
use Rattle.std.proofs.lemmas.Int.{ints, clamps}
use Rattle.vs_multi.specs.Multipliers.{IsMultiplier}
use Rattle.vs_penalty.specs.Means.{LiesBetween}

module _ (one other number : ℤ) (between : LiesBetween one other number) where
  -- one is within the limits of so many trips if these are
  pub between-IsMultiplier : (trips : ℕ) → IsMultiplier trips one → IsMultiplier trips other
      → IsMultiplier trips number
  between-IsMultiplier trips of_one of_other = (
    omega (arith, ints, clamps, between.0, of_one.0, of_other.0),
    omega (arith, ints, clamps, between.1, of_one.1, of_other.1),
    omega (arith, ints, clamps, between.1, of_one.2, of_other.2),
  )

  -- the same of equal numbers
  pub between-same : (first last middle : ℤ) → one ≡ first → other ≡ last → number ≡ middle
      → LiesBetween first last middle
  between-same first last middle of_one of_other of_number =
      let by_number : LiesBetween one other middle = subst (λ (n : ℤ). LiesBetween one other n) of_number between in
      let by_other : LiesBetween one last middle = subst (λ (n : ℤ). LiesBetween one n middle) of_other by_number in
      subst (λ (n : ℤ). LiesBetween n last middle) of_one by_other
