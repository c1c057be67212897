-- What a row says, as the reader keeps it, and kinds of rows.
use Rattle.vs_plan.specs.Blocks.{pair_of}
use Rattle.vs_rows.specs.DocumentRows.{BlockRow, EndRow, TableRow}
use Rattle.vs_rows.specs.PriceOrder.{priced_row}
use Rattle.vs_trace.specs.TraceRows.{TraceRow, ClosedRow, FirstRow, GaveBackRow, HeadRow, OfferedRow, OpeningRow, PartRow, SplitRow, TookRow}
use Rattle.vs_trace.specs.declared.reading.said.Said.{Said}
use Rattle.vs_trace.specs.declared.reading.said.Said.TheVariants as said

-- what the row says
abbrev pub row_said : Said → TraceRow
row_said said.Head = HeadRow
row_said (said.Opening budget workers) = OpeningRow budget workers
row_said (said.First cost) = FirstRow cost
row_said (said.Took worker spot) = TookRow worker spot
row_said (said.Split s) = SplitRow s.worker s.spot s.trip s.left
row_said (said.Closed worker spot) = ClosedRow worker spot
row_said (said.Offered worker cost) = OfferedRow worker cost
row_said (said.GaveBack worker spot) = GaveBackRow worker spot
row_said (said.Block b) = PartRow (BlockRow (pair_of b))
row_said (said.Table number ray) = PartRow (TableRow number ray)
row_said (said.Prices prices) = PartRow (priced_row prices)
row_said said.End = PartRow EndRow

-- a row of a step
abbrev pub IsStepRow : TraceRow → Type 0
IsStepRow (TookRow worker spot) = Unit {0}
IsStepRow (SplitRow worker spot trip left) = Unit {0}
IsStepRow (ClosedRow worker spot) = Unit {0}
IsStepRow (OfferedRow worker cost) = Unit {0}
IsStepRow (GaveBackRow worker spot) = Unit {0}
IsStepRow said = ⊥

-- a row that begins a trace or a table, or ends a trace
abbrev pub IsBeginRow : TraceRow → Type 0
IsBeginRow HeadRow = Unit {0}
IsBeginRow (OpeningRow budget workers) = Unit {0}
IsBeginRow (FirstRow cost) = Unit {0}
IsBeginRow (PartRow (TableRow number ray)) = Unit {0}
IsBeginRow (PartRow EndRow) = Unit {0}
IsBeginRow said = ⊥
