-- The rows as which a document is written have the form of its rows, and say them.
use Rattle.std.proofs.Common.{◌≡◌, ℕ, ◌+◌, ◌<◌, ◌≤◌, List, [], ◌∷◌, ◌++◌, length, map, refl, true, arith}
use Rattle.std.specs.Prelude.{flat_map, ◌==◌, All}
use Rattle.std.specs.List.{enumerate_from, range_with_len}
use Rattle.std.specs.Int.{bit_at}
use Rattle.std.proofs.lemmas.List.Elements.{All-append, All-contains, All-cons, All-filter, All-head, All-map, All-nil, All-tail, All-weaker, filter_passes}
use Rattle.std.proofs.lemmas.List.Kept.{AllPairs-from_increasing}
use Rattle.std.proofs.lemmas.Bool.{eqb-true}
use Rattle.vs_types.specs.LayerSet.{Has, layer_numbers, members}
use Rattle.vs_types.specs.declared.layer_set.LayerSet.{LayerSet}
use Rattle.vs_types.specs.declared.numbers.TheConstants.{MAX_LAYERS}
use Rattle.vs_types.proofs.CallerLemmas.{Contains-members_below, IsStrictlyIncreasing-members}
use Rattle.vs_instance.specs.Instance.{IsInstance}
use Rattle.vs_instance.specs.Plan.{LayerBlock}
use Rattle.vs_instance.specs.Problem.{Problem}
use Rattle.vs_instance.specs.Ways.{trip_of}
use Rattle.vs_instance.proofs.CallerLemmas.{All-numbers}
use Rattle.vs_plan.specs.Blocks.{IsOfInstance, blocks_of}
use Rattle.vs_prices.specs.Table.{Fits, into_price, from_price, vehicle_price}
use Rattle.vs_prices.specs.declared.table.Table.{Table}
use Rattle.vs_reader.specs.Names.{HaveCounts, NameLists}
use Rattle.vs_rows.specs.declared.document.Document.{Document}
use Rattle.vs_rows.specs.declared.limits.TheConstants.{MAX_NUMBER}
use Rattle.vs_rows.specs.declared.document.Shape.{Shape}
use Rattle.vs_rows.specs.declared.document.Shape.TheVariants as shape
use Rattle.vs_rows.specs.DocumentRows.{AreLayersOf, BlockRow, BoundRow, ClaimRow, CostRow, DocumentRow, EndRow, FleetRow, HasForm, IsNamedBlock, IsWritten, LeafRow, NodesRow, PriceRow, SayAll, SplitRow, TableRow, document_rows, head_rows, layer_rows, permitted_trips, rows_of_document, shape_row, table_rows, tables_rows, written_row, written_rows}
use Rattle.vs_rows.specs.DocumentText.{DocumentText, HasText}
use Rattle.vs_rows.specs.Shapes.{IsShapeOf}
use Rattle.vs_rows.proofs.written.PriceRanges.{price_anywhere, prices_in_all, printed}
use Rattle.vs_rows.proofs.Lists.{all_below}

-- the members of a set whose layers are below so many, each once
pub members_are : (left : LayerSet) (layers : ℕ) → layers ≤ MAX_LAYERS → ((l : ℕ) → Has left l → l < layers)
    → AreLayersOf left (members left)
members_are left layers few below_layers = record {
  once = λ i j d lt within. let less = AllPairs-from_increasing (members left)
      (IsStrictlyIncreasing-members left) i j d lt
      within in λ same. absurd (omega arith);
  members = λ l. (
    (λ among. eqb-true (bit_at left.0 l) 1
        (All-contains (λ k. (bit_at left.0 k == 1) ≡ true) (members left) l
        (filter_passes (λ k. bit_at left.0 k == 1) layer_numbers) among)),
    (λ has. Contains-members_below left l (omega (arith, below_layers l has)) has),
  );
}

module _ (p : Problem) (names : NameLists) (instance : IsInstance p) (counts : HaveCounts p names) where
  -- the rows of a layer of a table
  layer_forms : (table : Table) (l : ℕ) → Fits p table → l < length p.layers
      → All (HasForm names) (layer_rows p table l)
  layer_forms table l fits within =
      let layer : l < length names.layers = omega (arith, counts.layers) in
      let price : ℕ → DocumentRow = λ i. PriceRow l i (into_price p table l i) (from_price p table l i) in
      let numbers = range_with_len 0 (length p.trips) in
      let permitted : All (λ i. i < length p.trips) (permitted_trips p l) =
      All-filter (λ i. bit_at (trip_of p i).layers.0 l == 1) (λ i. i < length p.trips) numbers (all_below
      (length p.trips)) in
      All-cons (HasForm names) (FleetRow l (vehicle_price table l)) (map price (permitted_trips p l))
      (layer, printed _ (price_anywhere table.fleet.items l fits.fleet))
      (All-map (HasForm names) price (permitted_trips p l)
      (All-weaker (λ i. i < length p.trips) (λ i. HasForm names (price i))
      (λ i i_within. (
        layer,
        omega (arith, counts.trips),
        printed _ (price_anywhere _ i (prices_in_all p l table.into.items fits.into)),
        printed _ (price_anywhere _ i (prices_in_all p l table.from.items fits.from)),
      ))
      (permitted_trips p l) permitted))

  -- of tables numbered from n on
  tables_forms : (n : ℕ) (tables : List Table) → All (Fits p) tables → n + length tables ≤ MAX_NUMBER + 1
      → All (HasForm names) (flat_map (table_rows p) (enumerate_from n tables))
  tables_forms n [] fits few = All-nil (HasForm names)
  tables_forms n (table ∷ tables) fits few =
      All-append (HasForm names) (table_rows p (n, table)) (flat_map (table_rows p) (enumerate_from (n + 1) tables))
      (All-cons (HasForm names) (TableRow n table.ray) (flat_map (layer_rows p table) (range_with_len 0
      (length p.layers)))
      (omega arith)
      (All-numbers (HasForm names) (layer_rows p table) 0 (length p.layers)
      (λ l _ within. layer_forms table l (All-head (Fits p) table tables fits) (omega arith))))
      (tables_forms (n + 1) tables (All-tail (Fits p) table tables fits) (omega arith))

  -- of a split or a leaf
  pub shape_form : (tables : ℕ) (s : Shape) → tables ≤ MAX_NUMBER → IsShapeOf p tables s → HasForm names (shape_row s)
  shape_form tables (shape.Leaf table) few is = omega arith
  shape_form tables (shape.Split trip left) few is =
      (omega (arith, counts.trips), is.1, λ l has. omega (arith, counts.layers, is.2 l has))

  pub block_form : (b : LayerBlock) → IsOfInstance p b → IsNamedBlock names b
  block_form b is = record {
    layer = omega (arith, counts.layers, is.layer);
    some_trip = is.some_trip;
    trips = All-weaker (λ i. i.0 < length p.trips) (λ t. t.0 < length names.trips)
        (λ t within. omega (arith, counts.trips)) b.1 is.trips;
  }

  -- of a whole document
  pub document_forms : (d : Document) → HasText p d → All (HasForm names) (rows_of_document p d)
  document_forms d text =
      let nodes : List DocumentRow = NodesRow d.nodes ∷ [] in
      let bound : List DocumentRow = BoundRow d.bound ∷ nodes in
      let cost : List DocumentRow = CostRow d.cost ∷ bound in
      let head : All (HasForm names) (head_rows d) =
      All-cons (HasForm names) (ClaimRow d.claim) cost tt
      (All-cons (HasForm names) (CostRow d.cost) bound text.cost
      (All-cons (HasForm names) (BoundRow d.bound) nodes text.bound
      (All-cons (HasForm names) (NodesRow d.nodes) [] text.nodes (All-nil (HasForm names))))) in
      let blocks : All (HasForm names) (map BlockRow (blocks_of d.plan)) =
      All-map (HasForm names) BlockRow (blocks_of d.plan)
      (All-weaker (IsOfInstance p) (λ b. HasForm names (BlockRow b)) block_form (blocks_of d.plan) text.blocks) in
      let tables : All (HasForm names) (tables_rows p d.tables.items) =
      tables_forms 1 d.tables.items text.fits (omega (arith, text.few_tables)) in
      let shapes : All (HasForm names) (map shape_row d.shape.items) =
      All-map (HasForm names) shape_row d.shape.items
      (All-weaker (IsShapeOf p (length d.tables.items)) (λ s. HasForm names (shape_row s))
      (λ s is. shape_form (length d.tables.items) s text.few_tables is) d.shape.items text.shapes) in
      let block_rows = map BlockRow (blocks_of d.plan) in let table_rows = tables_rows p d.tables.items in
      All-append (HasForm names) (head_rows d ++ block_rows ++ table_rows ++ map shape_row d.shape.items) (EndRow ∷ [])
      (All-append (HasForm names) (head_rows d ++ block_rows ++ table_rows) (map shape_row d.shape.items)
      (All-append (HasForm names) (head_rows d ++ block_rows) table_rows
      (All-append (HasForm names) (head_rows d) block_rows head blocks) tables) shapes)
      (All-cons (HasForm names) EndRow [] tt (All-nil (HasForm names)))

  -- what has the form of a row is written so
  is_written : (said : DocumentRow) → HasForm names said → IsWritten names said (written_row names said)
  is_written (SplitRow trip left) has = (
    members left,
    members_are left (length names.layers) (omega
        (arith, counts.layers, instance.few_layers)) has.2,
    refl,
  )
  is_written (ClaimRow claim) has = refl
  is_written (CostRow cost) has = refl
  is_written (BoundRow bound) has = refl
  is_written (NodesRow n) has = refl
  is_written (BlockRow b) has = refl
  is_written (TableRow n ray) has = refl
  is_written (FleetRow l price) has = refl
  is_written (PriceRow l i into from) has = refl
  is_written (LeafRow n) has = refl
  is_written EndRow has = refl

  say_all : (said : List DocumentRow) → All (HasForm names) said → SayAll names (written_rows names said) said
  say_all [] forms = tt
  say_all (row ∷ said) forms =
      let has = All-head (HasForm names) row said forms in
      (record { form = has; written = is_written row has }, say_all said (All-tail (HasForm names) row said forms))

  pub stands : (d : Document) → HasText p d → DocumentText p names (document_rows p names d) d
  stands d text = record { has_text = text; rows_say = say_all (rows_of_document p d) (document_forms d text) }
