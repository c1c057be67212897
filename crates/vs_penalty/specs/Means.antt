-- Means of multipliers.
use Rattle.std.specs.Prelude.{ℕ, List, ℤ, pos, ◌≤ℤ◌}
use Rattle.std.specs.Int.{int_min, int_max}
use Rattle.vs_instance.specs.Lagrangian.{multiplier_of}
use Rattle.vs_instance.specs.declared.limits.TheConstants.{MAX_MULTIPLIER}

-- a number lies between two others, both included, whichever of them is the greater
abbrev pub LiesBetween : ℤ → ℤ → ℤ → Type 0
LiesBetween one other number = (int_min one other ≤ℤ number) × (number ≤ℤ int_max one other)

-- not below 0, nor beyond the limit of multipliers of any number of trips
abbrev pub IsLimited : ℤ → Type 0
IsLimited multiplier = (pos 0 ≤ℤ multiplier) × (multiplier ≤ℤ MAX_MULTIPLIER)

-- each multiplier of the last list lies between those of the first two
abbrev pub AreBetween : List ℤ → List ℤ → List ℤ → Type 0
AreBetween ones others multipliers =
    (i : ℕ) → LiesBetween (multiplier_of ones i) (multiplier_of others i) (multiplier_of multipliers i)
