-- Choices that are kept.
use Rattle.std.specs.Prelude.{◌≡◌, ℕ, List, length, All}
use Rattle.vs_walk.specs.declared.pool.Choice.{Choice}
use Rattle.vs_walk.specs.declared.choice.Draft.{Draft}

-- a set for each of so many trips
abbrev pub IsChoiceOf : ℕ → Choice → Type 0
IsChoiceOf trips choice = length choice.layers.items ≡ trips

-- so in each choice
abbrev pub AreChoicesOf : ℕ → List Choice → Type 0
AreChoicesOf trips choices = All (IsChoiceOf trips) choices

-- a set for each of so many trips, and a cost for each of so many layers
pub record IsDraftOf (trips layers : ℕ) (draft : Draft) : Type 0 where
  pub each_trip : length draft.layers.items ≡ trips
  pub each_layer : length draft.costs.items ≡ layers
