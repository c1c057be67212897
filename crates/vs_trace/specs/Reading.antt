-- How far the rows of a trace have been read.
use Rattle.std.specs.Prelude.{◌≡◌, ◌≢◌, ℕ, ◌+◌, ◌<◌, ◌≤◌, List, [], ◌∷◌, length, flat_map, All, ℤ, Option, Some, None, IfSome}
use Rattle.vs_plan.specs.Blocks.{CanBeJudged, blocks_of}
use Rattle.vs_plan.specs.declared.block.Plan.{Plan}
use Rattle.vs_reader.specs.declared.input.Input.{Input}
use Rattle.vs_rows.specs.DocumentRows.{EndRow}
use Rattle.vs_rows.specs.DocumentText.{IsBlankElsewhere}
use Rattle.vs_rows.specs.declared.limits.TheConstants.{MAX_NUMBER}
use Rattle.vs_instance.specs.Problem.{Problem}
use Rattle.vs_trace.specs.TraceRows.{FirstRow, IsOpeningForm, OpeningRow, PartRow, SaysTrace, TraceRow, first_rows, step_rows}
use Rattle.vs_trace.specs.Traces.{IsReadStep, TraceText, steps_from, tables_behind, told_first, told_step}
use Rattle.vs_trace.specs.declared.trace.Full.{Full}
use Rattle.vs_trace.specs.declared.trace.Full.TheVariants.{Split, Closed}
use Rattle.vs_trace.specs.declared.trace.Trace.{Trace}
use Rattle.vs_trace.specs.Places.{Place, AtBlocks, AtEnd, AtFirst, AtOpening, InTable}
use Rattle.vs_trace.specs.TraceRefusals.{IsRefusal, traces}
use Rattle.vs_rows.specs.RowReading.{IsFirstRefused, LeadTo, ReadsTo, SayTo}
use Rattle.vs_trace.specs.declared.reading.steps.Read.{Read}
use Rattle.vs_trace.specs.declared.reading.steps.Read.TheVariants as read
use Rattle.vs_trace.specs.declared.refused.TraceError.{TraceError}
use Rattle.vs_trace.specs.declared.refused.TraceError.TheVariants as error

-- of the rows from one on, which come at a place, the first that is refused is told and why
abbrev pub IsRefusedAt : Input → ℕ → Place → TraceError → Type 0
IsRefusedAt input at place (error.Refused row why) = IsFirstRefused traces input at place row why
IsRefusedAt input at place error.Memory = Unit {0}

-- it is so wherever that row comes
abbrev pub IsRefusedAnywhere : Input → ℕ → TraceError → Type 0
IsRefusedAnywhere input at e = (place : Place) → place ≢ AtEnd → IsRefusedAt input at place e

-- the row is there and says this
abbrev pub StandsThere : Input → ℕ → TraceRow → Type 0
StandsThere input at said = (at < length input.rest) × SaysTrace input at said

-- the second row tells the opening, and the third what the first plan costs
pub record ReadsOpening (input : Input) (budget workers : ℕ) : Type 0 where
  pub form : IsOpeningForm budget workers
  pub reads : ReadsTo traces input 1 AtOpening (OpeningRow budget workers ∷ []) 2 AtFirst

-- where blocks stand behind a cost, or not
abbrev pub behind_cost : Option ℤ → Place
behind_cost (Some cost) = AtBlocks 0
behind_cost None = InTable 0 []

abbrev pub ReadsCost : Input → Option ℤ → Type 0
ReadsCost input cost = ReadsTo traces input 2 AtFirst (FirstRow cost ∷ []) 3 (behind_cost cost)

-- the rows from the third on are those of the first plan, if any
pub record ReadsFirst (input : Input) (to : ℕ) (first : Option (ℤ × Plan)) : Type 0 where
  pub can_judge : IfSome first (λ f. CanBeJudged input.instance (blocks_of f.1))
  pub further : 3 ≤ to
  pub reads : ReadsTo traces input 2 AtFirst (first_rows (told_first input.instance first)) to (InTable 0 [])

-- the prices of a step's table that aren't printed are 0
abbrev pub IsBlankStep : Problem → Full → Type 0
IsBlankStep p (Split worker spot trip left table) = IsBlankElsewhere p table
IsBlankStep p (Closed worker spot table) = IsBlankElsewhere p table
IsBlankStep p step = Unit {0}

-- the rows from one on to before another are those of a step behind n tables and any accepted plans
pub record ReadsOne (input : Input) (at n : ℕ) (step : Full) (to tables : ℕ) : Type 0 where
  pub can_read : IsReadStep input.instance step
  pub blank : IsBlankStep input.instance step
  pub further : at < to
  pub few_tables : tables ≤ MAX_NUMBER
  pub tables_are : tables + 1 ≡ tables_behind (n + 1) step
  pub reads : (plans : ℕ) → ReadsTo traces input at (InTable n [])
      (step_rows input.instance (told_step input.instance (n + 1) plans step)) to (InTable tables [])

-- the row says `end`
pub record IsEnd (input : Input) (at : ℕ) : Type 0 where
  pub says : StandsThere input at (PartRow EndRow)

abbrev pub ReadsStep : Input → ℕ → ℕ → Read → Type 0
ReadsStep input at n (read.Step step next tables) = ReadsOne input at n step next tables
ReadsStep input at n read.End = IsEnd input at

-- the rows of steps behind so many tables and accepted plans
abbrev pub steps_rows : Input → ℕ → ℕ → List Full → List TraceRow
steps_rows input tables plans steps =
    flat_map (step_rows input.instance) (steps_from input.instance tables plans steps)

-- the rows from one on to before the end are those of some steps
pub record ReadsSteps (input : Input) (at to : ℕ) (steps : List Full) : Type 0 where
  pub can_read : All (IsReadStep input.instance) steps
  pub blank : All (IsBlankStep input.instance) steps
  pub few : length steps + at ≤ to
  pub say : (plans : ℕ) → SayTo traces input at (steps_rows input 1 plans steps) to
  pub ends : IsEnd input to
  pub tables : ℕ
  pub lead : LeadTo traces input at (InTable 0 []) to (InTable tables [])

-- the rows stand for the trace, and are refused so
abbrev pub IsTraceOf : Input → Trace → Type 0
IsTraceOf input t = TraceText input.instance input.names input.rest t

abbrev pub IsRefusalOf : Input → TraceError → Type 0
IsRefusalOf input e = IsRefusal input.instance input.names input.before input.rest e
