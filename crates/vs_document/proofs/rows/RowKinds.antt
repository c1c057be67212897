-- A row that has the form of none of some rows says none of them.
use Rattle.std.proofs.Common.{ℕ, Bool, Option, Some, None, ℤ}
use Rattle.std.specs.Prelude.{IfNone}
use Rattle.vs_types.specs.declared.layer_set.LayerSet.{LayerSet}
use Rattle.vs_types.specs.declared.numbers.TripNo.{TripNo}
use Rattle.vs_instance.specs.Plan.{LayerBlock}
use Rattle.vs_reader.specs.Rows.{Row}
use Rattle.vs_reader.specs.Names.{NameLists}
use Rattle.vs_prices.specs.declared.claim.Claim.{Claim}
use Rattle.vs_rows.specs.DocumentRows.{DocumentRow, ClaimRow, CostRow, BoundRow, NodesRow, BlockRow, TableRow, FleetRow, PriceRow, SplitRow, LeafRow, EndRow, Says}
use Rattle.vs_rows.specs.PriceOrder.{IsPriceRow}
use Rattle.vs_document.specs.RowKinds.{IsHeadRow, IsOtherRow}

-- what follows from a fact, follows for no value too
pub none_weaker : {T : Type 0} (r : Option T) (P Q : Type 0) → IfNone r P → (P → Q) → IfNone r Q
none_weaker (Some x) P Q none weaker = tt
none_weaker None P Q none weaker = weaker none

module _ (names : NameLists) (row : Row) where
  pub no_head_row : ((claim : Claim) → ¬ (Says names row (ClaimRow claim)))
      → ((cost : Option ℤ) → ¬ (Says names row (CostRow cost)))
      → ((bound : Option ℤ) → ¬ (Says names row (BoundRow bound)))
      → ((n : ℕ) → ¬ (Says names row (NodesRow n))) → (said : DocumentRow) → IsHeadRow said → ¬ (Says names row said)
  no_head_row claim cost bound nodes (ClaimRow x) is = claim x
  no_head_row claim cost bound nodes (CostRow x) is = cost x
  no_head_row claim cost bound nodes (BoundRow x) is = bound x
  no_head_row claim cost bound nodes (NodesRow n) is = nodes n
  no_head_row claim cost bound nodes _ is = absurd is

  pub no_other_row : ((n : ℕ) → ¬ (Says names row (LeafRow n)))
      → ((trip : TripNo) (left : LayerSet) → ¬ (Says names row (SplitRow trip left)))
      → ((n : ℕ) (ray : Bool) → ¬ (Says names row (TableRow n ray))) → ¬ (Says names row EndRow)
      → ((said : DocumentRow) → IsHeadRow said → ¬ (Says names row said))
      → (said : DocumentRow) → IsOtherRow said → ¬ (Says names row said)
  no_other_row leaf split table end head (LeafRow n) is = leaf n
  no_other_row leaf split table end head (SplitRow trip left) is = split trip left
  no_other_row leaf split table end head (TableRow n ray) is = table n ray
  no_other_row leaf split table end head EndRow is = end
  no_other_row leaf split table end head (ClaimRow x) is = head (ClaimRow x) tt
  no_other_row leaf split table end head (CostRow x) is = head (CostRow x) tt
  no_other_row leaf split table end head (BoundRow x) is = head (BoundRow x) tt
  no_other_row leaf split table end head (NodesRow n) is = head (NodesRow n) tt
  no_other_row leaf split table end head _ is = absurd is

  -- a row that has the form of none
  pub no_row : ((said : DocumentRow) → IsPriceRow said → ¬ (Says names row said))
      → ((said : DocumentRow) → IsOtherRow said → ¬ (Says names row said))
      → ((b : LayerBlock) → ¬ (Says names row (BlockRow b))) → (said : DocumentRow) → ¬ (Says names row said)
  no_row price other block (BlockRow b) = block b
  no_row price other block (FleetRow l n) = price (FleetRow l n) tt
  no_row price other block (PriceRow l i into from) = price (PriceRow l i into from) tt
  no_row price other block (ClaimRow x) = other (ClaimRow x) tt
  no_row price other block (CostRow x) = other (CostRow x) tt
  no_row price other block (BoundRow x) = other (BoundRow x) tt
  no_row price other block (NodesRow n) = other (NodesRow n) tt
  no_row price other block (TableRow n ray) = other (TableRow n ray) tt
  no_row price other block (SplitRow trip left) = other (SplitRow trip left) tt
  no_row price other block (LeafRow n) = other (LeafRow n) tt
  no_row price other block EndRow = other EndRow tt
