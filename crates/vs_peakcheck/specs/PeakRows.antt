-- The rows of a text that claims peaks: what each says, and how it is written.
use Rattle.std.specs.Prelude.{◌≡◌, ℕ, ◌+◌, ◌<◌, ◌≤◌, List, [], ◌∷◌, ◌++◌, length, map, codes, decimal, ℤ, Option, Some, None, IfSome}
use Rattle.std.specs.List.{AllZip}
use Rattle.vs_instance.specs.Problem.{Problem}
use Rattle.vs_instance.specs.HoldingTable.{price_of}
use Rattle.vs_instance.specs.Plan.{LayerBlock}
use Rattle.vs_plan.specs.Blocks.{pairs_of}
use Rattle.vs_prices.specs.declared.table.Table.{Table}
use Rattle.vs_reader.specs.Rows.{Field, Row, row_of}
use Rattle.vs_reader.specs.Names.{NameLists, name_of}
use Rattle.vs_reader.specs.declared.input.Input.{Input}
use Rattle.vs_rows.specs.DocumentRows.{DocumentRow, BlockRow, EndRow, FleetRow, PriceRow, Says, written_row}
use Rattle.vs_peakcheck.specs.Counting.{own_blocks, permitted_trips}
use Rattle.vs_peakcheck.specs.declared.claimed.Claimed.{Claimed}
use Rattle.vs_peakcheck.specs.declared.claimed.TheConstants.{MAX_COUNT}

-- what a row behind the first says: a layer and how many vehicles it needs, or none; or what a row of a document says
pub data PeakRow : Type 0 where
  CountRow : ℕ → Option ℕ → PeakRow
  PartRow : DocumentRow → PeakRow

-- the first row
abbrev pub head_row : Row
head_row = codes "result" ∷ codes "1" ∷ codes "peak" ∷ []

-- a count, or `none`
abbrev pub count_field : Option ℕ → Field
count_field (Some n) = decimal n
count_field None = codes "none"

abbrev pub IsCount : Option ℕ → Type 0
IsCount n = IfSome n (λ m. m ≤ MAX_COUNT)

abbrev pub count_row : NameLists → ℕ → Option ℕ → Row
count_row names l n = codes "peak" ∷ name_of names.layers l ∷ count_field n ∷ []

-- the row tells how many vehicles layer l needs
pub record IsCountRow (names : NameLists) (row : Row) (l : ℕ) (n : Option ℕ) : Type 0 where
  pub layer : l < length names.layers
  pub count : IsCount n
  pub written : row ≡ count_row names l n

-- of a document's rows a block, a price of vehicles, prices of a trip, and the end
abbrev pub IsPart : DocumentRow → Type 0
IsPart (BlockRow b) = Unit {0}
IsPart (FleetRow l price) = Unit {0}
IsPart (PriceRow l i into from) = Unit {0}
IsPart EndRow = Unit {0}
IsPart _ = ⊥

-- the row says this, and is written so
abbrev pub SaysSo : NameLists → Row → PeakRow → Type 0
SaysSo names row (CountRow l n) = IsCountRow names row l n
SaysSo names row (PartRow said) = IsPart said × Says names row said

abbrev pub SaysPeak : Input → ℕ → PeakRow → Type 0
SaysPeak input k said = SaysSo input.names (row_of input.rest k) said

-- the rows say these, one by one
abbrev pub SayAllSo : NameLists → List Row → List PeakRow → Type 0
SayAllSo names rows said = AllZip (SaysSo names) rows said

-- how a row is written
abbrev pub written_peak : NameLists → PeakRow → Row
written_peak names (CountRow l n) = count_row names l n
written_peak names (PartRow said) = written_row names said

abbrev pub block_rows : List LayerBlock → List PeakRow
block_rows blocks = map (λ b. PartRow (BlockRow b)) blocks

-- the prices for entering and for leaving these trips, one row for each
abbrev pub price_rows : ℕ → List ℕ → List ℤ → List ℤ → List PeakRow
price_rows l (i ∷ trips) (x ∷ into) (y ∷ from) = PartRow (PriceRow l i x y) ∷ price_rows l trips into from
price_rows l _ _ _ = []

-- the price of a vehicle, and those of the trips that layer l may run
abbrev pub table_rows : Problem → ℕ → Table → List PeakRow
table_rows p l table = PartRow (FleetRow l (price_of table.fleet.items 0))
    ∷ price_rows l (permitted_trips p l) table.into.items table.from.items

-- the rows of layer l: its count, its blocks by the names of its own trips, and its prices
abbrev pub layer_rows : Problem → ℕ → Claimed → List PeakRow
layer_rows p l c = CountRow l c.count ∷ block_rows (own_blocks p (record { 0 = l }) (pairs_of c.blocks.items))
    ++ table_rows p l c.table

-- the rows of some layers, from l on
abbrev pub layers_rows : Problem → ℕ → List Claimed → List PeakRow
layers_rows p l [] = []
layers_rows p l (c ∷ claimed) = layer_rows p l c ++ layers_rows p (l + 1) claimed

-- the rows behind the first
abbrev pub peak_rows : Problem → List Claimed → List PeakRow
peak_rows p claimed = layers_rows p 0 claimed ++ PartRow EndRow ∷ []

-- all rows as they are written
abbrev pub peak_text : Problem → NameLists → List Claimed → List Row
peak_text p names claimed = head_row ∷ map (written_peak names) (peak_rows p claimed)
