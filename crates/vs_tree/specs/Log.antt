-- What a search keeps of its steps: the steps as they are shown, and the tables and plans that they added.
use Rattle.std.specs.Prelude.{ℕ, ◌<◌, ◌≤◌, List, length, All, slice_get, slice_index_or, vec_capacity, Option, Some, None, IfSome}
use Rattle.std.specs.declared.alloc.Global.{Global}
use Rattle.std.specs.declared.vec.Vec.{Vec}
use Rattle.vs_plan.specs.CheckedPlan.{Checked}
use Rattle.vs_prices.specs.declared.table.Table.{Table}
use Rattle.vs_tree.specs.History as full
use Rattle.vs_tree.specs.History.{FullStep}
use Rattle.vs_tree.specs.Prices.{Prices, no_prices}
use Rattle.vs_tree.specs.declared.step.Step.{Step}
use Rattle.vs_tree.specs.declared.step.Step.TheVariants.{Took, Split, Closed, Offered, GaveBack}

-- the steps so far, the tables and the accepted plans, and how many of each there may be
pub record Log : Type 0 where
  pub steps : List FullStep
  pub tables : List Prices
  pub plans : List Checked
  pub step_room : ℕ
  pub table_room : ℕ
  pub plan_room : ℕ

-- the plan of this number
abbrev pub plan_of : List Checked → Option ℕ → Option Checked
plan_of plans None = None
plan_of plans (Some k) = slice_get plans k

-- a step with the table or the accepted plan whose number it names
abbrev pub full_step : List Prices → List Checked → Step → FullStep
full_step tables plans (Took worker leaf) = full.Took worker leaf
full_step tables plans (Split worker leaf table trip left) =
    full.Split worker leaf table trip left (slice_index_or tables table no_prices)
full_step tables plans (Closed worker leaf table) = full.Closed worker leaf table
    (slice_index_or tables table no_prices)
full_step tables plans (Offered worker cost plan) = full.Offered worker cost plan (plan_of plans plan)
full_step tables plans (GaveBack worker leaf) = full.GaveBack worker leaf

-- a full step without what it adds
abbrev pub plain_step : FullStep → Step
plain_step (full.Took worker leaf) = Took worker leaf
plain_step (full.Split worker leaf table trip left prices) = Split worker leaf table trip left
plain_step (full.Closed worker leaf table prices) = Closed worker leaf table
plain_step (full.Offered worker cost number added) = Offered worker cost number
plain_step (full.GaveBack worker leaf) = GaveBack worker leaf

-- the step names a table and a plan of so many
abbrev pub IsOfLog : ℕ → ℕ → Step → Type 0
IsOfLog tables plans (Took worker leaf) = Unit {0}
IsOfLog tables plans (Split worker leaf table trip left) = table < tables
IsOfLog tables plans (Closed worker leaf table) = table < tables
IsOfLog tables plans (Offered worker cost plan) = IfSome plan (λ k. k < plans)
IsOfLog tables plans (GaveBack worker leaf) = Unit {0}

pub record IsLog (steps : Vec Step Global) (tables : Vec Table Global) (plans : Vec Checked Global)
    (step_room table_room plan_room : ℕ) : Type 0 where
  pub of_log : All (IsOfLog (length tables.items) (length plans.items)) steps.items
  pub steps_room : step_room ≤ vec_capacity steps
  pub tables_room : table_room ≤ vec_capacity tables
  pub plans_room : plan_room ≤ vec_capacity plans
