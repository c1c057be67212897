-- Why rows claim nothing, and at which of them.
use Rattle.std.specs.Prelude.{◌≡◌, ◌≢◌, ℕ, ◌+◌, List, [], ◌∷◌, ◌⊎◌}
use Rattle.vs_instance.specs.Problem.{Problem}
use Rattle.vs_reader.specs.Rows.{Row}
use Rattle.vs_reader.specs.Names.{NameLists}
use Rattle.vs_rows.specs.RowRules.{AreRefusedFrom, RowRules}
use Rattle.vs_peakcheck.specs.declared.refused.PeakWhy.{PeakWhy}
use Rattle.vs_peakcheck.specs.declared.refused.PeakWhy.TheVariants.{NoPeak, BadRow, OutOfOrder, EndsEarly, RowsAfterEnd, PriceRange}
use Rattle.vs_peakcheck.specs.declared.refused.PeakError.{PeakError}
use Rattle.vs_peakcheck.specs.declared.refused.PeakError.TheVariants as error
use Rattle.vs_peakcheck.specs.PeakRows.{PeakRow, SaysSo, head_row}
use Rattle.vs_peakcheck.specs.Places.{Place, AtEnd, AtLayer, HasPrices, behind}

-- What a text of peaks asks of its rows: where each may come, and that what is given for a price is one.
abbrev pub peaks : RowRules Place PeakRow PeakWhy
peaks = record {
  Says = SaysSo;
  Suits = λ place said. Unit {0};
  behind = behind;
  IsRight = λ place said. HasPrices said;
  IsWrong = λ place said why. ¬ (HasPrices said) × (why ≡ PriceRange);
  at_end = AtEnd;
  bad_row = BadRow;
  out_of_order = OutOfOrder;
  rows_after_end = RowsAfterEnd;
  ends_early = EndsEarly;
}

-- the rows behind so many records claim nothing, for this reason
abbrev pub AreRefused : Problem → NameLists → ℕ → List Row → ℕ → PeakWhy → Type 0
AreRefused p names before [] at why = (at ≡ before + 1) × (why ≡ NoPeak)
AreRefused p names before (row ∷ rows) at why =
    ((row ≢ head_row) × (at ≡ before + 1) × (why ≡ NoPeak))
    ⊎ ((row ≡ head_row) × AreRefusedFrom peaks p names (before + 1 + 1) (AtLayer 0) rows at why)

-- the error tells that
abbrev pub IsRefusal : Problem → NameLists → ℕ → List Row → PeakError → Type 0
IsRefusal p names before rows (error.Refused at why) = AreRefused p names before rows at why
IsRefusal p names before rows error.Memory = Unit {0}

-- the error tells a row that is refused
abbrev pub IsRefusedError : PeakError → Type 0
IsRefusedError (error.Refused at why) = Unit {0}
IsRefusedError error.Memory = ⊥
