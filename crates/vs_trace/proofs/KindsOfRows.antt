-- A row that has the form of none of some rows says none of them.
use Rattle.std.proofs.Common.{◌≡◌, ℕ, Bool, Option, ℤ, pos, codes, arith, of_z, to_z, w64}
use Rattle.std.proofs.lemmas.Int.{ints, to_z-of_z}
use Rattle.vs_types.specs.declared.layer_set.LayerSet.{LayerSet}
use Rattle.vs_types.specs.declared.numbers.TripNo.{TripNo}
use Rattle.vs_reader.specs.Rows.{Row}
use Rattle.vs_reader.specs.Names.{NameLists}
use Rattle.vs_rows.specs.DocumentRows.{EndRow, TableRow, IsBetween, Says}
use Rattle.vs_rows.specs.declared.limits.TheConstants.{MAX_COST}
use Rattle.vs_trace.specs.TraceRows.{TraceRow, ClosedRow, FirstRow, GaveBackRow, HeadRow, OfferedRow, OpeningRow, PartRow, SaysSo, SplitRow, TookRow}
use Rattle.vs_trace.specs.Forms.{IsSpotRow}
use Rattle.vs_trace.specs.RowKinds.{IsBeginRow, IsStepRow}

-- a cost is the number that its 64 bits stand for
pub cost_word : (n : ℤ) → IsBetween (pos 0) MAX_COST n → to_z w64 (of_z w64 n) ≡ n
cost_word n is = to_z-of_z w64 n (omega (arith, ints, is.0, is.1))

module _ (names : NameLists) (row : Row) where
  pub no_step_row : ((w k : ℕ) → ¬ (IsSpotRow (codes "took") row w k))
      → ((w k : ℕ) → ¬ (IsSpotRow (codes "closed") row w k))
      → ((w k : ℕ) (trip : TripNo) (left : LayerSet) → ¬ (SaysSo names row (SplitRow w k trip left)))
      → ((w : ℕ) (cost : ℤ) → ¬ (SaysSo names row (OfferedRow w cost)))
      → ((w k : ℕ) → ¬ (IsSpotRow (codes "gaveback") row w k))
      → (said : TraceRow) → IsStepRow said → ¬ (SaysSo names row said)
  no_step_row took closed split offered back (TookRow w k) is says = took w k says
  no_step_row took closed split offered back (ClosedRow w k) is says = closed w k says
  no_step_row took closed split offered back (SplitRow w k trip left) is says = split w k trip left says
  no_step_row took closed split offered back (OfferedRow w cost) is says = offered w cost says
  no_step_row took closed split offered back (GaveBackRow w k) is says = back w k says
  no_step_row took closed split offered back _ is says = absurd is

  pub no_begin_row : ((n : ℕ) (ray : Bool) → ¬ (Says names row (TableRow n ray))) → ¬ (Says names row EndRow)
      → ((budget workers : ℕ) → ¬ (SaysSo names row (OpeningRow budget workers)))
      → ¬ (SaysSo names row HeadRow) → ((cost : Option ℤ) → ¬ (SaysSo names row (FirstRow cost)))
      → (said : TraceRow) → IsBeginRow said → ¬ (SaysSo names row said)
  no_begin_row table end opening head first (PartRow (TableRow n ray)) is says = table n ray says.1
  no_begin_row table end opening head first (PartRow EndRow) is says = end says.1
  no_begin_row table end opening head first (OpeningRow budget workers) is says = opening budget workers says
  no_begin_row table end opening head first HeadRow is says = head says
  no_begin_row table end opening head first (FirstRow cost) is says = first cost says
  no_begin_row table end opening head first _ is says = absurd is
