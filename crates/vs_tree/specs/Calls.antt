-- What the calls of a search add to its history.
use Rattle.std.specs.Prelude.{◌≡◌, ℕ, [], ◌∷◌, ◌++◌, length, Bool, true, false, Some, None}
use Rattle.vs_plan.specs.CheckedPlan.{Checked}
use Rattle.vs_tree.specs.declared.calls.Next.{Next}
use Rattle.vs_tree.specs.declared.calls.Next.TheVariants.{Close, Split}
use Rattle.vs_tree.specs.Prices.{Prices}
use Rattle.vs_tree.specs.History as full
use Rattle.vs_tree.specs.History.{FullStep, State, IsHeldBy}
use Rattle.vs_tree.specs.Search.{Search, state}

-- the worker holds a leaf
abbrev pub HoldsSome : State → ℕ → Type 0
HoldsSome s worker = (leaf : ℕ) × IsHeldBy s worker leaf

-- the search made one step more
abbrev pub with_step : Search → FullStep → Search
with_step t step = record { opening = t.opening; steps = t.steps ++ step ∷ [] }

-- the worker gave back the leaf that it held
pub record GivesBack (old new : Search) (worker : ℕ) : Type 0 where
  pub leaf : ℕ
  pub held : IsHeldBy (state old) worker leaf
  pub adds : new ≡ with_step old (full.GaveBack worker leaf)

-- the step by which a worker offers a plan
abbrev pub offering : State → ℕ → Checked → Bool → FullStep
offering s worker plan true = full.Offered worker plan.cost (Some (length s.accepted)) (Some plan)
offering s worker plan false = full.Offered worker plan.cost None None

-- the step by which a worker finishes its leaf with these prices
abbrev pub finishing : State → ℕ → ℕ → Prices → Next → FullStep
finishing s worker leaf prices Close = full.Closed worker leaf (length s.tables) prices
finishing s worker leaf prices (Split trip left) = full.Split worker leaf (length s.tables) trip left prices
