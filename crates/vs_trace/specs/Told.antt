-- What a trace tells of a history.
use Rattle.std.specs.Prelude.{◌≡◌, ◌<◌, ◌^◌, Bool, true, false, List, filter, length, None}
use Rattle.vs_reader.specs.Names.{HaveCounts, NameLists}
use Rattle.vs_tree.specs.History.{FullStep, IsHistory, Offered, Opening}
use Rattle.vs_tree.specs.Sound.{IsOpening}
use Rattle.vs_trace.specs.TraceRows.{IsOpeningForm, trace_text}
use Rattle.vs_trace.specs.Traces.{TraceText, told_opening, told_steps}
use Rattle.vs_trace.specs.declared.trace.Trace.{Trace}

-- an offer that wasn't accepted isn't told
abbrev pub is_told : FullStep → Bool
is_told (Offered worker cost number None) = false
is_told step = true

abbrev pub told_of : List FullStep → List FullStep
told_of steps = filter is_told steps

-- the trace tells how a search began, and its steps
pub record Tells (o : Opening) (history : List FullStep) (t : Trace) : Type 0 where
  pub opening : told_opening o.problem t ≡ o
  pub steps : told_steps o.problem t ≡ told_of history

-- the trace text of a search that keeps to the limits, and that made fewer than 2 ^ 63 steps, stands for a trace that
-- tells of it
abbrev pub WrittenTracesStand : Type 0
WrittenTracesStand =
    (o : Opening) (steps : List FullStep) (names : NameLists) → IsOpening o → IsHistory o steps
    → length steps < 2 ^ 63 → IsOpeningForm o.budget o.workers → HaveCounts o.problem names
    → (t : Trace) × Tells o steps t × TraceText o.problem names (trace_text names o steps) t
