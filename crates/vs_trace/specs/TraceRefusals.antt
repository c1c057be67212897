-- Why rows are no trace, and at which of them.
use Rattle.std.specs.Prelude.{◌≡◌, ◌≢◌, ℕ, ◌+◌, List, [], ◌∷◌, ◌⊎◌}
use Rattle.vs_instance.specs.Problem.{Problem}
use Rattle.vs_reader.specs.Names.{NameLists}
use Rattle.vs_reader.specs.Rows.{Row}
use Rattle.vs_rows.specs.RowRules.{AreRefusedFrom, RowRules}
use Rattle.vs_trace.specs.Places.{Place, AtEnd, AtOpening, GivesPrices, HasNumber, behind}
use Rattle.vs_trace.specs.TraceRows.{SaysSo, TraceRow, head_row}
use Rattle.vs_trace.specs.declared.refused.TraceError.{TraceError}
use Rattle.vs_trace.specs.declared.refused.TraceError.TheVariants as error
use Rattle.vs_trace.specs.declared.refused.TraceWhy.{TraceWhy}
use Rattle.vs_trace.specs.declared.refused.TraceWhy.TheVariants.{NoTrace, BadRow, OutOfOrder, TableNumber, EndsEarly, RowsAfterEnd, PriceRange}

-- What a trace asks of its rows: where each may come, that a table has the number that comes next, and that what is
-- given for a price is one.
abbrev pub traces : RowRules Place TraceRow TraceWhy
traces = record {
  Says = SaysSo;
  Suits = λ place said. Unit {0};
  behind = behind;
  IsRight = λ place said. HasNumber place said × GivesPrices said;
  IsWrong = λ place said why. (¬ (HasNumber place said) × (why ≡ TableNumber))
      ⊎ (HasNumber place said × ¬ (GivesPrices said) × (why ≡ PriceRange));
  at_end = AtEnd;
  bad_row = BadRow;
  out_of_order = OutOfOrder;
  rows_after_end = RowsAfterEnd;
  ends_early = EndsEarly;
}

-- the rows behind so many records are no trace, for this reason
abbrev pub AreRefused : Problem → NameLists → ℕ → List Row → ℕ → TraceWhy → Type 0
AreRefused p names before [] at why = (at ≡ before + 1) × (why ≡ NoTrace)
AreRefused p names before (row ∷ rows) at why =
    ((row ≢ head_row) × (at ≡ before + 1) × (why ≡ NoTrace))
    ⊎ ((row ≡ head_row) × AreRefusedFrom traces p names (before + 1 + 1) AtOpening rows at why)

-- the error tells that
abbrev pub IsRefusal : Problem → NameLists → ℕ → List Row → TraceError → Type 0
IsRefusal p names before rows (error.Refused at why) = AreRefused p names before rows at why
IsRefusal p names before rows error.Memory = Unit {0}

-- the error tells a row that is refused
abbrev pub IsRefusedError : TraceError → Type 0
IsRefusedError (error.Refused at why) = Unit {0}
IsRefusedError error.Memory = ⊥
