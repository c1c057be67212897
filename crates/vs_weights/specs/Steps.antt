-- How far slopes go, and how far steps along them may.
use Rattle.std.specs.Prelude.{ℕ, ◌*◌, ◌^◌, ◌<◌, ◌≤◌, All, IsTrue, List}
use Rattle.std.specs.Int.RustNames.{unsigned_abs}
use Rattle.vs_cuts.specs.Numbers.{IsNear}
use Rattle.vs_weights.specs.declared.standing.Standing.{Standing}
use Rattle.vs_weights.specs.declared.step.Step.{Step}
use Rattle.vs_weights.specs.declared.weights.Peaks.{Peaks}

-- a short step's product with a slope that is no further from 0 than this keeps within 64 bits, with room for an error
pub record IsShortFor (most : ℕ) (step : Step) : Type 0 where
  pub product : IsTrue step.is_short → unsigned_abs step.length * most ≤ 2 ^ 62

-- no slope is further from 0
abbrev pub AreSlopes : ℕ → List Standing → Type 0
AreSlopes most standings = All (λ standing. IsNear most standing.slope) standings

-- both stand among so many places
pub record ArePeaksOf (places : ℕ) (peaks : Peaks) : Type 0 where
  pub high : peaks.high < places
  pub low : peaks.low < places
