-- Why rows are no document, and at which of them.
use Rattle.std.specs.Prelude.{◌≡◌, ℕ, ◌+◌, List, [], ◌∷◌, ◌⊎◌}
use Rattle.vs_instance.specs.Problem.{Problem}
use Rattle.vs_reader.specs.Rows.{Row}
use Rattle.vs_reader.specs.Names.{NameLists}
use Rattle.vs_document.specs.declared.refused.DocWhy.{DocWhy}
use Rattle.vs_document.specs.declared.refused.DocWhy.TheVariants.{NoResult, BadRow, OutOfOrder, TableNumber, EndsEarly, RowsAfterEnd, PriceRange}
use Rattle.vs_document.specs.declared.refused.DocError.{DocError}
use Rattle.vs_document.specs.declared.refused.DocError.TheVariants as error
use Rattle.vs_rows.specs.DocumentRows.{DocumentRow, Says}
use Rattle.vs_rows.specs.PriceOrder.{HasPrices}
use Rattle.vs_rows.specs.RowRules.{AreRefusedFrom, RowRules}
use Rattle.vs_document.specs.Places.{Place, AtClaim, AtEnd, HasNumber, SuitsCost, behind}

-- What a document asks of its rows: where each may come, that tables and leaves have their numbers, and that what is
-- given for a price is one.
abbrev pub documents : RowRules Place DocumentRow DocWhy
documents = record {
  Says = Says;
  Suits = SuitsCost;
  behind = behind;
  IsRight = λ place said. HasNumber place said × HasPrices said;
  IsWrong = λ place said why. (¬ (HasNumber place said) × (why ≡ TableNumber))
      ⊎ (HasNumber place said × ¬ (HasPrices said) × (why ≡ PriceRange));
  at_end = AtEnd;
  bad_row = BadRow;
  out_of_order = OutOfOrder;
  rows_after_end = RowsAfterEnd;
  ends_early = EndsEarly;
}

-- the rows behind so many records are no document, for this reason
abbrev pub AreRefused : Problem → NameLists → ℕ → List Row → ℕ → DocWhy → Type 0
AreRefused p names before [] at why = (at ≡ before + 1) × (why ≡ NoResult)
AreRefused p names before (row ∷ rows) at why =
    AreRefusedFrom documents p names (before + 1) AtClaim (row ∷ rows) at why

-- the error tells that
abbrev pub IsRefusal : Problem → NameLists → ℕ → List Row → DocError → Type 0
IsRefusal p names before rows (error.Refused at why) = AreRefused p names before rows at why
IsRefusal p names before rows error.Memory = Unit {0}

-- the error tells a row that is refused
abbrev pub IsRefusedError : DocError → Type 0
IsRefusedError (error.Refused at why) = Unit {0}
IsRefusedError error.Memory = ⊥
