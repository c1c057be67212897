use Rattle.std.proofs.Common.{◌≡◌, ◌++◌, map, take}
use Rattle.std.specs.Prelude.{flat_map}
use Rattle.vs_reader.specs.Rows.{lines}
use Rattle.vs_tree.specs.Log.{plain_step}
use Rattle.vs_trace.specs.TraceRows.{written_traces}
use Rattle.vs_trace.specs.Writing.{rows_of_step}
use Rattle.vs_trace.proofs.writing.steps.write_steps.Given as goal

-- the steps so far are written
abbrev pub invariant-loop-step : goal.invariant-loop-step
invariant-loop-step l = l.text ≡ l.initial.text
    ++ flat_map (λ step. lines (written_traces l.names (rows_of_step l.tree step)))
    (take l.step-index (map plain_step l.tree.steps))
