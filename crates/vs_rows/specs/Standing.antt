-- Rows that stand one behind another.
use Rattle.std.specs.Prelude.{◌≡◌, ℕ, ◌+◌, ◌<◌, ◌≤◌, List, [], ◌∷◌, length, map, All}
use Rattle.vs_instance.specs.Plan.{LayerBlock}
use Rattle.vs_plan.specs.Blocks.{IsOfInstance}
use Rattle.vs_reader.specs.declared.input.Input.{Input}
use Rattle.vs_rows.specs.DocumentRows.{DocumentRow, BlockRow}
use Rattle.vs_rows.specs.RowForms.{SaysThere}

-- the rows from one on to before another say these, one by one
abbrev pub StandFrom : Input → ℕ → List DocumentRow → ℕ → Type 0
StandFrom input at [] to = (at ≡ to) × (to ≤ length input.rest)
StandFrom input at (said ∷ more) to =
    (at < length input.rest) × SaysThere input at said × StandFrom input (at + 1) more to

-- the row is no block's
abbrev pub IsNoBlock : Input → ℕ → Type 0
IsNoBlock input row = (b : LayerBlock) → ¬ (SaysThere input row (BlockRow b))

-- the rows from one on to before another are those of these blocks, and no block stands behind them
pub record BlocksStand (input : Input) (at to : ℕ) (blocks : List LayerBlock) : Type 0 where
  pub of_instance : All (IsOfInstance input.instance) blocks
  pub stand : StandFrom input at (map BlockRow blocks) to
  pub ends : IsNoBlock input to
