-- What is added to a trace that is written.
use Rattle.std.specs.Prelude.{◌≡◌, ℕ, List, ◌++◌, length}
use Rattle.vs_reader.specs.Names.{NameLists}
use Rattle.vs_reader.specs.Rows.{lines}
use Rattle.vs_tree.specs.declared.step.Step.{Step}
use Rattle.vs_tree.specs.declared.step.Step.TheVariants.{Split}
use Rattle.vs_tree.specs.Log.{IsOfLog, full_step}
use Rattle.vs_tree.specs.Search.{Search, state}
use Rattle.vs_trace.specs.TraceRows.{IsSplitForm, TraceRow, step_rows, written_traces}

-- some rows
abbrev pub AddsTraces : NameLists → List TraceRow → List ℕ → List ℕ → Type 0
AddsTraces names said old new = new ≡ old ++ lines (written_traces names said)

-- a split is by a trip and by layers that have names
abbrev pub HasNames : NameLists → Step → Type 0
HasNames names (Split worker leaf table trip left) = IsSplitForm names trip left
HasNames names step = Unit {0}

-- the rows of a step, with the table or the plan that it names
abbrev pub rows_of_step : Search → Step → List TraceRow
rows_of_step t step = step_rows t.opening.problem (full_step (state t).tables (state t).accepted step)

-- a step names a table and a plan that there are, and a trip and layers that have names
pub record CanBeWritten (t : Search) (names : NameLists) (step : Step) : Type 0 where
  pub of_log : IsOfLog (length (state t).tables) (length (state t).accepted) step
  pub has_names : HasNames names step
