-- What a trace tells of a search: its opening and its steps; and the rows that stand for it.
use Rattle.std.specs.Prelude.{ℕ, ◌+◌, ◌<◌, ◌≤◌, ◌^◌, List, [], ◌∷◌, length, All, ℤ, Option, Some, None, IfSome, option_map}
use Rattle.vs_instance.specs.Problem.{Problem}
use Rattle.vs_instance.specs.declared.limits.TheConstants.{MAX_BUDGET, MAX_WORKERS}
use Rattle.vs_plan.specs.Blocks.{CanBeJudged, blocks_of}
use Rattle.vs_plan.specs.CheckedPlan.{Checked}
use Rattle.vs_plan.specs.declared.block.Plan.{Plan}
use Rattle.vs_prices.specs.Table.{Fits}
use Rattle.vs_reader.specs.Names.{NameLists}
use Rattle.vs_reader.specs.Rows.{Row}
use Rattle.vs_tree.specs.History as full
use Rattle.vs_tree.specs.History.{FullStep, Opening}
use Rattle.vs_tree.specs.Prices.{prices_of}
use Rattle.vs_trace.specs.TraceRows.{SayAllSo, trace_rows}
use Rattle.vs_trace.specs.declared.trace.Full.{Full}
use Rattle.vs_trace.specs.declared.trace.Full.TheVariants.{Took, Split, Closed, Offered, GaveBack}
use Rattle.vs_trace.specs.declared.trace.Trace.{Trace}

-- a plan of the instance at the cost that is told; whether it is one is not said
abbrev pub told_plan : Problem → ℤ → Plan → Checked
told_plan p cost plan = record { problem = p; blocks = blocks_of plan; cost = cost }

abbrev pub told_first : Problem → Option (ℤ × Plan) → Option Checked
told_first p first = option_map (λ f. told_plan p f.0 f.1) first

abbrev pub told_opening : Problem → Trace → Opening
told_opening p t = record {
  problem = p;
  budget = t.budget;
  workers = t.workers;
  first = told_first p t.first;
}

-- how many plans are accepted before the first step
abbrev pub first_plans : Option (ℤ × Plan) → ℕ
first_plans None = 0
first_plans (Some first) = 1

-- a step, where so many tables and so many accepted plans come before it; a plan that is told was accepted
abbrev pub told_step : Problem → ℕ → ℕ → Full → FullStep
told_step p tables plans (Took worker spot) = full.Took worker spot
told_step p tables plans (Split worker spot trip left table) =
    full.Split worker spot tables trip left (prices_of table)
told_step p tables plans (Closed worker spot table) = full.Closed worker spot tables (prices_of table)
told_step p tables plans (Offered worker cost plan) =
    full.Offered worker cost (Some plans) (Some (told_plan p cost plan))
told_step p tables plans (GaveBack worker spot) = full.GaveBack worker spot

-- how many tables there are behind it, and how many accepted plans
abbrev pub tables_behind : ℕ → Full → ℕ
tables_behind tables (Split worker spot trip left table) = tables + 1
tables_behind tables (Closed worker spot table) = tables + 1
tables_behind tables step = tables

abbrev pub plans_behind : ℕ → Full → ℕ
plans_behind plans (Offered worker cost plan) = plans + 1
plans_behind plans step = plans

-- the steps, one after the other
abbrev pub steps_from : Problem → ℕ → ℕ → List Full → List FullStep
steps_from p tables plans [] = []
steps_from p tables plans (step ∷ rest) =
    told_step p tables plans step ∷ steps_from p (tables_behind tables step) (plans_behind plans step) rest

-- table 0 is the one of zeros
abbrev pub told_steps : Problem → Trace → List FullStep
told_steps p t = steps_from p 1 (first_plans t.first) t.steps.items

-- the table of a step fits the instance, and its plan can be judged
abbrev pub IsReadStep : Problem → Full → Type 0
IsReadStep p (Took worker spot) = Unit {0}
IsReadStep p (Split worker spot trip left table) = Fits p table
IsReadStep p (Closed worker spot table) = Fits p table
IsReadStep p (Offered worker cost plan) = CanBeJudged p (blocks_of plan)
IsReadStep p (GaveBack worker spot) = Unit {0}

-- what a trace has that was read for an instance
pub record IsReadFor (p : Problem) (t : Trace) : Type 0 where
  pub few_leaves : t.budget ≤ MAX_BUDGET
  pub some_workers : 0 < t.workers
  pub few_workers : t.workers ≤ MAX_WORKERS
  pub first : IfSome t.first (λ f. CanBeJudged p (blocks_of f.1))
  pub steps : All (IsReadStep p) t.steps.items
  pub few_steps : length t.steps.items + 1 < 2 ^ 32

-- the table of a step fits the instance
abbrev pub HasFitting : Problem → Full → Type 0
HasFitting p (Split worker spot trip left table) = Fits p table
HasFitting p (Closed worker spot table) = Fits p table
HasFitting p step = Unit {0}

-- the rows stand for the trace
pub record TraceText (p : Problem) (names : NameLists) (rows : List Row) (t : Trace) : Type 0 where
  pub fits : All (HasFitting p) t.steps.items
  pub rows_say : SayAllSo names rows (trace_rows (told_opening p t) (told_steps p t))
