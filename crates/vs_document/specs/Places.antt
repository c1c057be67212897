-- Which row comes next in a document.
use Rattle.std.specs.Prelude.{ℕ, zero, suc, ◌+◌, ◌≡◌, ◌≤◌, ◌==◌, ◌&&◌, if◌then◌else◌, List, [], ◌∷◌, ℤ, Option, Some, None}
use Rattle.vs_instance.specs.Problem.{Problem}
use Rattle.vs_rows.specs.DocumentRows.{DocumentRow, ClaimRow, CostRow, BoundRow, NodesRow, BlockRow, TableRow, FleetRow, PriceRow, SplitRow, LeafRow, EndRow}
use Rattle.vs_rows.specs.PriceOrder.{PriceOf, Trip, Vehicle, prices_of}

-- a place between two rows
pub data Place : Type 0 where
  -- before the claim, and before the cost
  AtClaim : Place
  AtCost : Place
  -- behind a cost: before the bound, before the nodes, and before a block, the first table or the tree
  AtBound : Option ℤ → Place
  AtNodes : Option ℤ → Place
  AtBlocks : Option ℤ → Place
  -- in the table of this number, of which these rows are still to come; where none are, before the next table or the
  -- tree
  InTable : ℕ → List PriceOf → Place
  -- in the tree behind so many tables, of which so many parts are still to come
  InTree : ℕ → ℕ → Place
  -- behind `end`
  AtEnd : Place

-- how many tables stand before the place
abbrev pub tables_before : Place → ℕ
tables_before (InTable n prices) = n
tables_before (InTree n parts) = n
tables_before _ = 0

-- where the tree has so many parts still to come, the place behind one more row of it
abbrev pub behind_shape : ℕ → ℕ → DocumentRow → Option Place
behind_shape n (suc parts) (SplitRow trip left) = Some (InTree n (suc (suc parts)))
behind_shape n (suc parts) (LeafRow number) = Some (InTree n parts)
behind_shape n zero EndRow = Some AtEnd
behind_shape n _ _ = None

-- where a whole table may come, or the tree, which has one part as it begins
abbrev pub behind_table : Problem → ℕ → DocumentRow → Option Place
behind_table p n (TableRow number ray) = Some (InTable (n + 1) (prices_of p))
behind_table p n said = behind_shape n 1 said

-- where this row of prices comes next in table n, and these after it
abbrev pub behind_price : ℕ → PriceOf → List PriceOf → DocumentRow → Option Place
behind_price n (Vehicle l) prices (FleetRow layer price) = if l == layer then Some (InTable n prices) else None
behind_price n (Trip l i) prices (PriceRow layer trip into from) =
    if (l == layer) && (i == trip) then Some (InTable n prices) else None
behind_price n _ _ _ = None

-- blocks stand beside a cost alone
abbrev pub behind_block : Problem → Option ℤ → DocumentRow → Option Place
behind_block p (Some cost) (BlockRow b) = Some (AtBlocks (Some cost))
behind_block p cost said = behind_table p 0 said

-- the place behind a row that may come at this place; none where another has to come
abbrev pub behind : Problem → Place → DocumentRow → Option Place
behind p AtClaim (ClaimRow claim) = Some AtCost
behind p AtCost (CostRow cost) = Some (AtBound cost)
behind p (AtBound cost) (BoundRow bound) = Some (AtNodes cost)
behind p (AtNodes cost) (NodesRow n) = Some (AtBlocks cost)
behind p (AtBlocks cost) said = behind_block p cost said
behind p (InTable n []) said = behind_table p n said
behind p (InTable n (price ∷ prices)) said = behind_price n price prices said
behind p (InTree n parts) said = behind_shape n parts said
behind p _ _ = None

-- a table has the number that comes next, and a leaf the number of a table
abbrev pub HasNumber : Place → DocumentRow → Type 0
HasNumber place (TableRow number ray) = number ≡ tables_before place + 1
HasNumber place (LeafRow number) = (1 ≤ number) × (number ≤ tables_before place)
HasNumber place said = Unit {0}

-- no bound stands beside a cost only where there is none
abbrev pub SuitsCost : Place → DocumentRow → Type 0
SuitsCost (AtBound (Some cost)) (BoundRow None) = ⊥
SuitsCost place said = Unit {0}
