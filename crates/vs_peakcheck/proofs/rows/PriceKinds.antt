-- A row that has the form of no row of such a text says nothing.
use Rattle.std.proofs.Common.{ℕ, Option}
use Rattle.vs_reader.specs.Rows.{row_of}
use Rattle.vs_reader.specs.declared.input.Input.{Input}
use Rattle.vs_instance.specs.Plan.{LayerBlock}
use Rattle.vs_rows.specs.DocumentRows.{DocumentRow, BlockRow, EndRow, FleetRow, PriceRow, Says}
use Rattle.vs_rows.specs.PriceOrder.{IsPriceRow}
use Rattle.vs_rows.specs.RowForms.{SaysThere}
use Rattle.vs_peakcheck.specs.PeakRows.{CountRow, IsCountRow, PartRow, PeakRow, SaysPeak}

module _ (input : Input) (row : ℕ) where
  -- a row that has the form of none
  pub no_row : ((said : DocumentRow) → IsPriceRow said → ¬ (SaysThere input row said))
      → ((l : ℕ) (n : Option ℕ) → ¬ (IsCountRow input.names (row_of input.rest row) l n))
      → ¬ (Says input.names (row_of input.rest row) EndRow)
      → ((b : LayerBlock) → ¬ (Says input.names (row_of input.rest row) (BlockRow b)))
      → (said : PeakRow) → ¬ (SaysPeak input row said)
  no_row prices count end block (CountRow l n) says = count l n says
  no_row prices count end block (PartRow (BlockRow b)) says = block b says.1
  no_row prices count end block (PartRow EndRow) says = end says.1
  no_row prices count end block (PartRow (FleetRow l n)) says = prices (FleetRow l n) tt says.1
  no_row prices count end block (PartRow (PriceRow l i into from)) says =
      prices (PriceRow l i into from) tt says.1
  no_row prices count end block (PartRow _) says = absurd says.0
