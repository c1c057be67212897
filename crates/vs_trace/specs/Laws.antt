-- What holds of the traces that rows stand for.
use Rattle.std.specs.Prelude.{◌≡◌, ℕ, List}
use Rattle.vs_instance.specs.Problem.{Problem}
use Rattle.vs_reader.specs.Names.{NameLists}
use Rattle.vs_reader.specs.NameRules.{AreNames}
use Rattle.vs_reader.specs.Rows.{Row}
use Rattle.vs_trace.specs.Traces.{TraceText}
use Rattle.vs_trace.specs.declared.trace.Trace.{Trace}
use Rattle.vs_trace.specs.Alike.{AreAlike}
use Rattle.vs_trace.specs.TraceRefusals.{AreRefused}
use Rattle.vs_trace.specs.declared.refused.TraceWhy.{TraceWhy}

-- rows that stand for a trace aren't refused
abbrev pub TracesAreNotRefused : Type 0
TracesAreNotRefused = (p : Problem) (names : NameLists) (before : ℕ) (rows : List Row) (t : Trace) (at : ℕ)
    (why : TraceWhy) → AreNames names.layers → AreNames names.trips → TraceText p names rows t
    → AreRefused p names before rows at why → ⊥

-- rows are refused at one row, and for one reason
abbrev pub RowsAreRefusedOnce : Type 0
RowsAreRefusedOnce = (p : Problem) (names : NameLists) (before : ℕ) (rows : List Row) (at to : ℕ)
    (why other : TraceWhy) → AreNames names.layers → AreNames names.trips → AreRefused p names before rows at why
    → AreRefused p names before rows to other → (at ≡ to) × (why ≡ other)

-- traces that the same rows stand for say the same
abbrev pub TracesOfRowsAreAlike : Type 0
TracesOfRowsAreAlike = (p : Problem) (names : NameLists) (rows : List Row) (t u : Trace) → AreNames names.layers
    → AreNames names.trips → TraceText p names rows t → TraceText p names rows u → AreAlike p t u
