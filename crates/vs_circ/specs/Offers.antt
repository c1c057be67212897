-- The trips that a layer is offered, each with what it is paid for.
use Rattle.std.specs.Prelude.{◌≡◌, ℕ, List, length, map, Option, Some, None, IsSome, IfSome, slice_index_or, ℤ, pos, ◌≤ℤ◌, true, Bool, false}
use Rattle.vs_instance.specs.Dearest.{most_multiplier}
use Rattle.vs_instance.specs.Problem.{Problem}
use Rattle.vs_instance.specs.Ways.{Permitted}
use Rattle.vs_instance.specs.declared.limits.TheConstants.{MAX_MULTIPLIER}

-- the multiplier of trip i, None where it isn't offered
abbrev pub offer_of : List (Option ℤ) → ℕ → Option ℤ
offer_of offers i = slice_index_or offers i None

abbrev pub IsOffered : List (Option ℤ) → ℕ → Type 0
IsOffered offers i = IsSome (offer_of offers i)

abbrev pub paid : Option ℤ → ℤ
paid None = pos 0
paid (Some multiplier) = multiplier

-- what each trip is paid for, nothing where it isn't offered
abbrev pub multipliers_of : List (Option ℤ) → List ℤ
multipliers_of offers = map paid offers

-- an entry for each trip, which is offered only where layer l may run it, and for no more than the greatest multiplier
-- of so many trips
pub record AreOffers (p : Problem) (l : ℕ) (offers : List (Option ℤ)) : Type 0 where
  pub each_trip : length offers ≡ length p.trips
  pub permitted : (i : ℕ) → IsOffered offers i → Permitted p l i
  pub within : (i : ℕ) → IfSome (offer_of offers i) (λ m. (pos 0 ≤ℤ m) × (m ≤ℤ MAX_MULTIPLIER))
  pub payable : (i : ℕ) → IfSome (offer_of offers i) (λ m. m ≤ℤ pos (most_multiplier (length p.trips)))

-- trip i is one that has to run
abbrev pub MustRun : List Bool → ℕ → Type 0
MustRun must i = slice_index_or must i false ≡ true

-- an entry for each trip, which has to run only where layer l may run it
pub record AreMust (p : Problem) (l : ℕ) (must : List Bool) : Type 0 where
  pub each_trip : length must ≡ length p.trips
  pub permitted : (i : ℕ) → MustRun must i → Permitted p l i
