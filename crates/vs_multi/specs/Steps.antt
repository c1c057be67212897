-- By how much multipliers change from round to round.
use Rattle.std.specs.Prelude.{◌≡◌, ℕ, ◌+◌, ◌*◌, ◌/◌, ◌^◌, ◌<◌, ◌≤◌, List, length, sum_by, slice_index, nat_abs, ℤ, pos, ◌+ℤ◌, ◌-ℤ◌}
use Rattle.vs_instance.specs.Lagrangian.{multiplier_of}
use Rattle.vs_instance.specs.Dearest.{most_multiplier}
use Rattle.vs_instance.specs.Problem.{Problem}
use Rattle.vs_multi.specs.declared.steps.Steps.{Steps}
use Rattle.vs_multi.specs.declared.steps.Steps.TheVariants.{Halving, Near}
use Rattle.vs_multi.specs.declared.steps.TheConstants.{ROUNDS, ROUNDS_PER_STEP}
use Rattle.vs_multi.specs.Multipliers.{AreStarts, limited}

-- the mean, rounded down; 0 of no numbers
abbrev pub IsMean : List ℤ → ℕ → Type 0
IsMean multipliers mean = (length multipliers ≡ 0 → mean ≡ 0)
    × (0 < length multipliers → mean ≡ sum_by nat_abs multipliers / length multipliers)

-- the greatest step: the mean of the multipliers to begin with
abbrev pub IsGreatestStep : Problem → ℕ → Type 0
IsGreatestStep p most = (starts : List ℤ) × AreStarts p starts × IsMean starts most

-- how many rounds there are
abbrev pub rounds_in : Steps → ℕ
rounds_in Halving = ROUNDS
rounds_in (Near rounds) = rounds

-- there is a round, and there are no more than the root has
abbrev pub HasRounds : Steps → Type 0
HasRounds steps = (0 < rounds_in steps) × (rounds_in steps ≤ ROUNDS)

-- the step of round r, of which none is greater than the greatest
abbrev pub step_in : Steps → ℕ → ℕ → ℕ
step_in Halving most r = most / 2 ^ (r / ROUNDS_PER_STEP)
step_in (Near rounds) most r = most / 400 * 10 / (10 + r)

-- a multiplier within the limit after a step up, and a step down for each layer that runs its trip
abbrev pub moved : ℤ → ℤ → ℕ → ℕ → ℤ
moved most multiplier step covers = limited most ((multiplier +ℤ pos step) -ℤ pos (step * covers))

-- so for each trip
pub record AreMoved (step : ℕ) (covers : List ℕ) (old new : List ℤ) : Type 0 where
  pub each_trip : length new ≡ length old
  pub moved : (i : ℕ) → i < length old
      → multiplier_of new i ≡ moved (pos (most_multiplier (length old))) (multiplier_of old i) step
      (slice_index covers i)
