-- The rows of a document: what each says, and how it is written.
use Rattle.std.specs.Prelude.{◌≡◌, ◌≢◌, ℕ, ◌+◌, ◌<◌, ◌≤◌, Bool, if◌then◌else◌, List, [], ◌∷◌, ◌++◌, length, map, filter, flat_map, All, AllPairs, Contains, codes, decimal, ◌==◌, ◌↔◌, ℤ, pos, neg_ℤ, ◌≤ℤ◌, Option, Some, None, IfSome}
use Rattle.std.specs.Fmt.{signed_decimal}
use Rattle.std.specs.Int.{bit_at}
use Rattle.std.specs.List.{AllZip, enumerate_from, range_with_len}
use Rattle.vs_types.specs.LayerSet.{Has, members}
use Rattle.vs_types.specs.declared.layer_set.LayerSet.{LayerSet}
use Rattle.vs_types.specs.declared.numbers.TripNo.{TripNo}
use Rattle.vs_instance.specs.Problem.{Problem}
use Rattle.vs_instance.specs.Ways.{trip_of}
use Rattle.vs_instance.specs.Plan.{LayerBlock}
use Rattle.vs_plan.specs.Blocks.{blocks_of}
use Rattle.vs_prices.specs.Table.{into_price, from_price, vehicle_price}
use Rattle.vs_prices.specs.declared.table.Table.{Table}
use Rattle.vs_reader.specs.Rows.{Field, Row}
use Rattle.vs_reader.specs.Names.{NameLists, name_of}
use Rattle.vs_prices.specs.declared.claim.Claim.{Claim}
use Rattle.vs_prices.specs.declared.claim.Claim.TheVariants.{Optimal, Infeasible, StillOpen}
use Rattle.vs_rows.specs.declared.document.Document.{Document}
use Rattle.vs_rows.specs.declared.limits.TheConstants.{MAX_COST, MAX_BOUND, MAX_FINISHED, MAX_NUMBER, MAX_PRINTED_PRICE}
use Rattle.vs_rows.specs.declared.document.Shape.{Shape}
use Rattle.vs_rows.specs.declared.document.Shape.TheVariants.{Split, Leaf}

-- what one row of a document says
pub data DocumentRow : Type 0 where
  ClaimRow : Claim → DocumentRow
  -- a number, or `none`
  CostRow : Option ℤ → DocumentRow
  BoundRow : Option ℤ → DocumentRow
  NodesRow : ℕ → DocumentRow
  BlockRow : LayerBlock → DocumentRow
  -- the number of a table, and whether it is a ray
  TableRow : ℕ → Bool → DocumentRow
  -- a layer, and the price of one of its vehicles
  FleetRow : ℕ → ℤ → DocumentRow
  -- a layer, a trip, and the prices for entering and for leaving it
  PriceRow : ℕ → ℕ → ℤ → ℤ → DocumentRow
  -- a trip, and the layers in which it may be run on the left
  SplitRow : TripNo → LayerSet → DocumentRow
  -- the number of a table
  LeafRow : ℕ → DocumentRow
  EndRow : DocumentRow

abbrev pub claim_field : Claim → Field
claim_field Optimal = codes "optimal"
claim_field Infeasible = codes "infeasible"
claim_field StillOpen = codes "open"

-- a number, or `none`
abbrev pub number_field : Option ℤ → Field
number_field (Some n) = signed_decimal n
number_field None = codes "none"

abbrev pub kind_field : Bool → Field
kind_field ray = if ray then codes "ray" else codes "cost"

-- `split`, TRIP, and some LAYERs
abbrev pub split_row : NameLists → TripNo → List ℕ → Row
split_row names trip layers = codes "split" ∷ name_of names.trips trip.0 ∷ map (name_of names.layers) layers

-- the row as it is written, where a split's layers stand in number order
abbrev pub written_row : NameLists → DocumentRow → Row
written_row names (ClaimRow claim) = codes "result" ∷ codes "1" ∷ claim_field claim ∷ []
written_row names (CostRow cost) = codes "cost" ∷ number_field cost ∷ []
written_row names (BoundRow bound) = codes "bound" ∷ number_field bound ∷ []
written_row names (NodesRow n) = codes "nodes" ∷ decimal n ∷ []
written_row names (BlockRow b) = codes "block" ∷ name_of names.layers b.0.0 ∷ map (λ t. name_of names.trips t.0) b.1
written_row names (TableRow n ray) = codes "table" ∷ decimal n ∷ kind_field ray ∷ []
written_row names (FleetRow l price) = codes "fleet" ∷ name_of names.layers l ∷ signed_decimal price ∷ []
written_row names (PriceRow l i into from) = codes "price" ∷ name_of names.layers l ∷ name_of names.trips i
    ∷ signed_decimal into ∷ signed_decimal from ∷ []
written_row names (SplitRow trip left) = split_row names trip (members left)
written_row names (LeafRow n) = codes "leaf" ∷ decimal n ∷ []
written_row names EndRow = codes "end" ∷ []

abbrev pub IsBetween : ℤ → ℤ → ℤ → Type 0
IsBetween low high n = (low ≤ℤ n) × (n ≤ℤ high)

-- at most so far from 0, either way
abbrev pub IsWithin : ℤ → ℤ → Type 0
IsWithin most n = IsBetween (neg_ℤ most) most n

-- a block of some trips, each of which and whose layer has a name
pub record IsNamedBlock (names : NameLists) (b : LayerBlock) : Type 0 where
  pub layer : b.0.0 < length names.layers
  pub some_trip : 0 < length b.1
  pub trips : All (λ t. t.0 < length names.trips) b.1

-- each name in the row is declared, each number within the range of its kind, and a split has some layer on the left
abbrev pub HasForm : NameLists → DocumentRow → Type 0
HasForm names (ClaimRow claim) = Unit {0}
HasForm names (CostRow cost) = IfSome cost (IsBetween (pos 0) MAX_COST)
HasForm names (BoundRow bound) = IfSome bound (IsWithin MAX_BOUND)
HasForm names (NodesRow n) = n ≤ MAX_FINISHED
HasForm names (BlockRow b) = IsNamedBlock names b
HasForm names (TableRow n ray) = n ≤ MAX_NUMBER
HasForm names (FleetRow l price) = (l < length names.layers) × IsWithin MAX_PRINTED_PRICE price
HasForm names (PriceRow l i into from) = (l < length names.layers) × (i < length names.trips)
    × IsWithin MAX_PRINTED_PRICE into × IsWithin MAX_PRINTED_PRICE from
HasForm names (SplitRow trip left) =
    (trip.0 < length names.trips) × (members left ≢ []) × ((l : ℕ) → Has left l → l < length names.layers)
HasForm names (LeafRow n) = n ≤ MAX_NUMBER
HasForm names EndRow = Unit {0}

-- these are the layers of the set, each once and in any order
pub record AreLayersOf (left : LayerSet) (layers : List ℕ) : Type 0 where
  pub once : AllPairs (λ a b. ¬ (a ≡ b)) layers
  pub members : (l : ℕ) → Contains layers l ↔ Has left l

-- a row is written so; the layers of a split may stand in any order
abbrev pub IsWritten : NameLists → DocumentRow → Row → Type 0
IsWritten names (SplitRow trip left) row =
    (layers : List ℕ) × AreLayersOf left layers × (row ≡ split_row names trip layers)
IsWritten names said row = row ≡ written_row names said

-- the row has the form of one of a document, and says this
pub record Says (names : NameLists) (row : Row) (said : DocumentRow) : Type 0 where
  pub form : HasForm names said
  pub written : IsWritten names said row

-- the rows say these, one by one
abbrev pub SayAll : NameLists → List Row → List DocumentRow → Type 0
SayAll names rows said = AllZip (Says names) rows said

-- the numbers of the trips that layer l may run, in order
abbrev pub permitted_trips : Problem → ℕ → List ℕ
permitted_trips p l = filter (λ i. bit_at (trip_of p i).layers.0 l == 1) (range_with_len 0 (length p.trips))

-- the rows of layer l in a table: the price of a vehicle, and the prices of each trip that the layer may run
abbrev pub layer_rows : Problem → Table → ℕ → List DocumentRow
layer_rows p table l = FleetRow l (vehicle_price table l)
    ∷ map (λ i. PriceRow l i (into_price p table l i) (from_price p table l i)) (permitted_trips p l)

-- the rows of a table with its number: its kind, and those of each layer
abbrev pub table_rows : Problem → ℕ × Table → List DocumentRow
table_rows p e = TableRow e.0 e.1.ray ∷ flat_map (layer_rows p e.1) (range_with_len 0 (length p.layers))

-- those of all tables, numbered from 1
abbrev pub tables_rows : Problem → List Table → List DocumentRow
tables_rows p tables = flat_map (table_rows p) (enumerate_from 1 tables)

-- the row of a split or a leaf, which names its table by the number from 1 on
abbrev pub shape_row : Shape → DocumentRow
shape_row (Leaf table) = LeafRow (table + 1)
shape_row (Split trip left) = SplitRow trip left

-- what a document claims, its cost, its bound and its nodes
abbrev pub head_of : Claim → Option ℤ → Option ℤ → ℕ → List DocumentRow
head_of claim cost bound nodes = ClaimRow claim ∷ CostRow cost ∷ BoundRow bound ∷ NodesRow nodes ∷ []

abbrev pub head_rows : Document → List DocumentRow
head_rows d = head_of d.claim d.cost d.bound d.nodes

-- the head of a document, its blocks, its tables numbered from 1, its tree, and `end`
abbrev pub rows_of_document : Problem → Document → List DocumentRow
rows_of_document p d = head_rows d
    ++ map BlockRow (blocks_of d.plan) ++ tables_rows p d.tables.items
    ++ map shape_row d.shape.items ++ EndRow ∷ []

-- the rows as they are written
abbrev pub written_rows : NameLists → List DocumentRow → List Row
written_rows names said = map (written_row names) said

-- those of a document
abbrev pub document_rows : Problem → NameLists → Document → List Row
document_rows p names d = written_rows names (rows_of_document p d)
