-- What a row says, as the reader keeps it, and kinds of rows.
use Rattle.vs_plan.specs.Blocks.{pair_of}
use Rattle.vs_document.specs.declared.reading.said.Said.{Said}
use Rattle.vs_document.specs.declared.reading.said.Said.TheVariants as said
use Rattle.vs_rows.specs.DocumentRows.{DocumentRow, ClaimRow, CostRow, BoundRow, NodesRow, BlockRow, TableRow, FleetRow, PriceRow, SplitRow, LeafRow, EndRow}
use Rattle.vs_rows.specs.PriceOrder.{priced_row}

-- what the row says
abbrev pub row_said : Said → DocumentRow
row_said (said.Claim claim) = ClaimRow claim
row_said (said.Cost cost) = CostRow cost
row_said (said.Bound bound) = BoundRow bound
row_said (said.Nodes n) = NodesRow n
row_said (said.Block b) = BlockRow (pair_of b)
row_said (said.Table number ray) = TableRow number ray
row_said (said.Prices prices) = priced_row prices
row_said (said.Split trip left) = SplitRow trip left
row_said (said.Leaf number) = LeafRow number
row_said said.End = EndRow

-- one of the first four rows of a document
abbrev pub IsHeadRow : DocumentRow → Type 0
IsHeadRow (ClaimRow claim) = Unit {0}
IsHeadRow (CostRow cost) = Unit {0}
IsHeadRow (BoundRow bound) = Unit {0}
IsHeadRow (NodesRow n) = Unit {0}
IsHeadRow said = ⊥

-- a row that is neither one of prices nor a block
abbrev pub IsOtherRow : DocumentRow → Type 0
IsOtherRow (FleetRow l price) = ⊥
IsOtherRow (PriceRow l i into from) = ⊥
IsOtherRow (BlockRow b) = ⊥
IsOtherRow said = Unit {0}
