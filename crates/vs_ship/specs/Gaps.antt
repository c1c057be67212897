-- Prices without gaps that no step bridges.
use Rattle.std.specs.Prelude.{◌≡◌, ◌⊎◌, ℕ, ◌*◌, ◌<◌, ◌≤◌, List, length, ℤ, pos, ◌-ℤ◌, ◌≤ℤ◌}
use Rattle.vs_path.specs.StepCosts.{most_step}
use Rattle.vs_path.specs.Residual.{AllWithin, price_at}
use Rattle.vs_path.specs.Raising.{HasSpan}
use Rattle.vs_ship.specs.declared.gaps.TheConstants.{MAX_NODE_PRICE}

-- one price is above another by no more than before, and by no less, or still by as much as a step costs at most in a
-- net of so many nodes
pub record IsClosed (nodes : ℕ) (before after : ℤ) : Type 0 where
  pub no_more : after ≤ℤ before
  pub enough : (before ≤ℤ after) ⊎ (pos (most_step nodes) ≤ℤ after)

-- so are all prices above those that are no greater
abbrev pub AreClosed : List ℤ → List ℤ → Type 0
AreClosed old new = (u v : ℕ) → u < length old → v < length old → price_at old u ≤ℤ price_at old v
    → IsClosed (length old) (price_at old v -ℤ price_at old u) (price_at new v -ℤ price_at new u)

-- prices that rise, or stay, from each place to the next
abbrev pub AreAscending : List ℤ → Type 0
AreAscending prices = (i j : ℕ) → i ≤ j → j < length prices → price_at prices i ≤ℤ price_at prices j

-- prices that are near enough to one another, counted from the first
pub record AreNear (old new : List ℤ) : Type 0 where
  pub size : length new ≡ length old
  pub closed : AreClosed old new
  pub within : AllWithin MAX_NODE_PRICE new
  pub span : HasSpan MAX_NODE_PRICE new
  pub first : price_at new 0 ≡ pos 0

-- a price above 0 by no more than what so many steps cost in a net of so many nodes
pub record IsLevel (nodes steps : ℕ) (price : ℤ) : Type 0 where
  pub low : pos 0 ≤ℤ price
  pub high : price ≤ℤ pos (steps * most_step nodes)

-- of so many places, each is above those before it by no more than the prices are, and by no less, or by enough
abbrev pub AreLevels : ℕ → List ℤ → List ℤ → Type 0
AreLevels count ascending levels = (i j : ℕ) → i ≤ j → j < count
    → IsClosed (length ascending) (price_at ascending j -ℤ price_at ascending i)
    (price_at levels j -ℤ price_at levels i)

-- each price, counted from the first
pub record AreCounted (old new : List ℤ) : Type 0 where
  pub size : length new ≡ length old
  pub each : (v : ℕ) → v < length old → price_at new v ≡ price_at old v -ℤ price_at old 0

-- a price is put at the level of a place where it stands
pub record IsAtLevel (old ascending levels : List ℤ) (v : ℕ) (price : ℤ) : Type 0 where
  pub place : ℕ
  pub within : place < length ascending
  pub from : price_at ascending place ≡ price_at old v
  pub to : price_at levels place ≡ price

-- so are all
abbrev pub AreAtLevels : List ℤ → List ℤ → List ℤ → List ℤ → Type 0
AreAtLevels old ascending levels new = (v : ℕ) → v < length old → IsAtLevel old ascending levels v (price_at new v)
