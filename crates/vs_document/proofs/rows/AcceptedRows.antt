-- The rows of a document lead from its claim to behind its end.
use Rattle.std.proofs.Common.{◌≡◌, ℕ, suc, ◌+◌, ◌<◌, List, [], ◌∷◌, ◌++◌, length, map, flat_map, refl, sym, ap, ◌∙◌, subst, arith, ℤ, All, Some, None, Option, append_assoc}
use Rattle.std.specs.Prelude.{IfNone}
use Rattle.std.specs.List.{enumerate_from, range_with_len}
use Rattle.std.proofs.lemmas.List.{map-append}
use Rattle.std.proofs.lemmas.List.Elements.{All-head, All-tail}
use Rattle.vs_instance.specs.Plan.{LayerBlock}
use Rattle.vs_instance.specs.Problem.{Problem}
use Rattle.vs_plan.specs.Blocks.{blocks_of}
use Rattle.vs_prices.specs.Table.{Fits, into_price, from_price, vehicle_price}
use Rattle.vs_prices.specs.declared.table.Table.{Table}
use Rattle.vs_prices.specs.Tree.{Tree, Leaf, Split}
use Rattle.vs_rows.specs.declared.document.Document.{Document}
use Rattle.vs_rows.specs.declared.document.Shape.{Shape}
use Rattle.vs_rows.specs.declared.document.Shape.TheVariants as shape
use Rattle.vs_rows.specs.DocumentRows.{DocumentRow, BlockRow, TableRow, FleetRow, PriceRow, EndRow, head_rows, layer_rows, permitted_trips, rows_of_document, shape_row, table_rows, tables_rows}
use Rattle.vs_rows.specs.DocumentText.{HasText}
use Rattle.vs_rows.specs.PriceOrder.{PriceOf, Trip, Vehicle, prices_of}
use Rattle.vs_document.specs.Places.{AtClaim, AtCost, AtBound, AtNodes, AtBlocks, InTable, InTree, AtEnd}
use Rattle.vs_rows.specs.Shapes.{IsShapeOf, preorder}
use Rattle.vs_document.proofs.rows.BoundBesideCost.{suits}
use Rattle.vs_rows.proofs.CallerLemmas.{All-both, LeadsTo, leads_on, price_anywhere, prices_in_all}
use Rattle.vs_document.specs.DocumentRefusals.{documents}
use Rattle.vs_document.proofs.parts.PricePlaces.{price_leads}
use Rattle.vs_document.proofs.parts.SamePlaces.{same_right}

module _ (p : Problem) where
  leads_tree : (n parts : ℕ) (tree : Tree) → All (IsShapeOf p n) (preorder tree)
      → LeadsTo documents p (InTree n (suc parts)) (map shape_row (preorder tree)) (InTree n parts)
  leads_tree n parts (Leaf table) is =
      let below : table < n = All-head (IsShapeOf p n) (shape.Leaf table) [] is in
      (InTree n parts, record { suits = tt; order = refl; right = ((omega arith, omega arith), tt) }, refl)
  leads_tree n parts (Split trip left lower upper) is =
      let parts_are = All-tail (IsShapeOf p n) (shape.Split trip left) (preorder lower ++ preorder upper) is in
      let P : List DocumentRow → Type 0 = λ rows.
      LeadsTo documents p (InTree n (suc (suc parts))) rows (InTree n parts) in (
        InTree n (suc (suc parts)),
        record { suits = tt; order = refl; right = (tt, tt) },
        subst P (sym (map-append shape_row (preorder lower) (preorder upper)))
            (leads_on documents p (InTree n (suc (suc parts))) (InTree n (suc parts)) (InTree n parts)
            (map shape_row (preorder lower)) (map shape_row (preorder upper))
            (leads_tree n (suc parts) lower (All-both (IsShapeOf p n) (preorder lower) (preorder upper) parts_are).0)
            (leads_tree n parts upper (All-both (IsShapeOf p n) (preorder lower) (preorder upper) parts_are).1)),
      )

  -- where a table comes, the tree comes too
  at_tables : (n : ℕ) (rows : List DocumentRow) → LeadsTo documents p (InTree n 1) rows AtEnd
      → LeadsTo documents p (InTable n []) rows AtEnd
  at_tables n [] leads = absurd (cc)
  at_tables n (TableRow number ray ∷ rows) leads = let none = leads.1.order in absurd (cc)
  at_tables n (said ∷ rows) leads =
      let right = same_right (InTable n []) (InTree n 1) refl said leads.1.right in
      (leads.0, record { suits = tt; order = leads.1.order; right = right }, leads.2)

  -- and where a block comes, a table comes too
  at_blocks : (cost : Option ℤ) (rows : List DocumentRow) → LeadsTo documents p (InTable 0 []) rows AtEnd
      → LeadsTo documents p (AtBlocks cost) rows AtEnd
  at_blocks cost [] leads = absurd (cc)
  at_blocks None (said ∷ rows) leads =
      let right = same_right (AtBlocks None) (InTable 0 []) refl said leads.1.right in
      (leads.0, record { suits = tt; order = leads.1.order; right = right }, leads.2)
  at_blocks (Some n) (BlockRow b ∷ rows) leads = let none = leads.1.order in absurd (cc)
  at_blocks (Some n) (said ∷ rows) leads =
      let right = same_right (AtBlocks (Some n)) (InTable 0 []) refl said leads.1.right in
      (leads.0, record { suits = tt; order = leads.1.order; right = right }, leads.2)

  pub leads_blocks : (cost : Option ℤ) (blocks : List LayerBlock) → IfNone cost (blocks ≡ [])
      → LeadsTo documents p (AtBlocks cost) (map BlockRow blocks) (AtBlocks cost)
  leads_blocks cost [] none = refl
  leads_blocks None (b ∷ blocks) none = absurd (omega (arith, ap length none))
  leads_blocks (Some n) (b ∷ blocks) none =
      (AtBlocks (Some n), record { suits = tt; order = refl; right = (tt, tt) }, leads_blocks (Some n) blocks tt)

  module _ (table : Table) (fits : Fits p table) (n : ℕ) where
    leads_trips : (l : ℕ) (trips : List ℕ) (later : List PriceOf)
        → LeadsTo documents p (InTable n (map (Trip l) trips ++ later))
        (map (λ i. PriceRow l i (into_price p table l i) (from_price p table l i)) trips) (InTable n later)
    leads_trips l [] later = refl
    leads_trips l (i ∷ trips) later = (
      InTable n (map (Trip l) trips ++ later),
      price_leads p n (Trip l i) (map (Trip l) trips ++ later)
          (PriceRow l i (into_price p table l i) (from_price p table l i)) (refl, refl) (
            price_anywhere _ i (prices_in_all p l table.into.items fits.into),
            price_anywhere _ i (prices_in_all p l table.from.items fits.from),
          ),
      leads_trips l trips later,
    )

    leads_layers : (layers : List ℕ)
        → LeadsTo documents p (InTable n (flat_map (λ l. Vehicle l ∷ map (Trip l) (permitted_trips p l)) layers))
        (flat_map (layer_rows p table) layers) (InTable n [])
    leads_layers [] = refl
    leads_layers (l ∷ layers) =
        let later : List PriceOf = flat_map (λ k. Vehicle k ∷ map (Trip k) (permitted_trips p k)) layers in (
          InTable n (map (Trip l) (permitted_trips p l) ++ later),
          price_leads p n (Vehicle l) (map (Trip l) (permitted_trips p l) ++ later)
              (FleetRow l (vehicle_price table l)) refl (price_anywhere table.fleet.items l fits.fleet),
          leads_on documents p (InTable n (map (Trip l) (permitted_trips p l) ++ later)) (InTable n later)
              (InTable n [])
              (map (λ i. PriceRow l i (into_price p table l i) (from_price p table l i)) (permitted_trips p l))
              (flat_map (layer_rows p table) layers) (leads_trips l (permitted_trips p l) later) (leads_layers layers),
        )

  -- the rows of one table
  pub leads_table : (n : ℕ) (table : Table) → Fits p table
      → LeadsTo documents p (InTable n []) (table_rows p (n + 1, table)) (InTable (n + 1) [])
  leads_table n table fits = (
    InTable (n + 1) (prices_of p),
    record { suits = tt; order = refl; right = (refl, tt) },
    leads_layers table fits (n + 1) (range_with_len 0 (length p.layers)),
  )

  leads_tables : (n m : ℕ) (tables : List Table) → All (Fits p) tables → m ≡ n + 1
      → LeadsTo documents p (InTable n []) (flat_map (table_rows p) (enumerate_from m tables))
      (InTable (n + length tables) [])
  leads_tables n m [] fits is = ap (λ (k : ℕ). InTable k []) (omega arith)
  leads_tables n m (table ∷ tables) fits is =
      let P : ℕ → Type 0 = λ k. LeadsTo documents p (InTable (n + 1) [])
      (flat_map (table_rows p) (enumerate_from (m + 1) tables)) (InTable k []) in
      let place : n + 1 + length tables ≡ n + suc (length tables) = omega arith in (
        InTable (n + 1) (prices_of p),
        record { suits = tt; order = refl; right = (is, tt) },
        leads_on documents p (InTable (n + 1) (prices_of p)) (InTable (n + 1) []) (InTable (n + suc (length tables)) [])
            (flat_map (layer_rows p table) (range_with_len 0 (length p.layers)))
            (flat_map (table_rows p) (enumerate_from (m + 1) tables))
            (leads_layers table (All-head (Fits p) table tables fits) (n + 1) (range_with_len 0 (length p.layers)))
            (subst P place (leads_tables (n + 1) (m + 1) tables (All-tail (Fits p) table tables fits) (omega arith))),
      )

  -- the rows of a document behind its head, from the left
  abbrev pub rest_of_rows : Document → List DocumentRow
  rest_of_rows d = map BlockRow (blocks_of d.plan) ++ (tables_rows p d.tables.items
      ++ (map shape_row d.shape.items ++ EndRow ∷ []))

  pub rest_is : (d : Document) → rows_of_document p d ≡ head_rows d ++ rest_of_rows d
  rest_is d =
      let blocks = map BlockRow (blocks_of d.plan) in
      let tables = tables_rows p d.tables.items in
      let shapes = map shape_row d.shape.items in
      append_assoc (head_rows d ++ blocks ++ tables) shapes (EndRow ∷ [])
      ∙ append_assoc (head_rows d ++ blocks) tables (shapes ++ EndRow ∷ [])
      ∙ append_assoc (head_rows d) blocks (tables ++ (shapes ++ EndRow ∷ []))

  cost_beside : (bound cost : Option ℤ) → IfNone bound (cost ≡ None) → bound ≡ None → cost ≡ None
  cost_beside None cost none e = none
  cost_beside (Some n) cost none e = absurd (cc)

  -- those of a document with a text lead from its claim to behind its end
  pub leads_document : (d : Document) → HasText p d → LeadsTo documents p AtClaim (rows_of_document p d) AtEnd
  leads_document d text =
      let n = length d.tables.items in
      let tables = tables_rows p d.tables.items in
      let shapes = map shape_row d.shape.items in
      let S : List Shape → Type 0 = λ rows. All (IsShapeOf p n) rows in
      let R : List Shape → Type 0 = λ rows. LeadsTo documents p (InTree n 1) (map shape_row rows) (InTree n 0) in
      let tree = subst R (sym text.tree.rows_are) (leads_tree n 0 text.tree.tree
      (subst S text.tree.rows_are text.shapes)) in
      let to_end = leads_on documents p (InTree n 1) (InTree n 0) AtEnd shapes (EndRow ∷ []) tree
      (AtEnd, record { suits = tt; order = refl; right = (tt, tt) }, refl) in
      let from_tables = leads_on documents p (InTable 0 []) (InTable n []) AtEnd tables (shapes ++ EndRow ∷ [])
      (let P : ℕ → Type 0 = λ k. LeadsTo documents p (InTable 0 []) tables (InTable k []) in
      let none : 0 + n ≡ n = omega arith in
      subst P none (leads_tables 0 1 d.tables.items text.fits refl)) (at_tables n (shapes ++ EndRow ∷ []) to_end) in
      let from_blocks = leads_on documents p (AtBlocks d.cost) (AtBlocks d.cost) AtEnd (map BlockRow (blocks_of d.plan))
      (tables ++ (shapes ++ EndRow ∷ [])) (leads_blocks d.cost (blocks_of d.plan) text.no_blocks)
      (at_blocks d.cost (tables ++ (shapes ++ EndRow ∷ [])) from_tables) in
      let P : List DocumentRow → Type 0 = λ rows. LeadsTo documents p AtClaim rows AtEnd in
      subst P (sym (rest_is d)) (
        AtCost,
        record { suits = tt; order = refl; right = (tt, tt) },
        (
          AtBound d.cost,
          record { suits = tt; order = refl; right = (tt, tt) },
          (
            AtNodes d.cost,
            record {
              suits = suits d.cost d.bound (cost_beside d.bound d.cost text.no_cost);
              order = refl;
              right = (tt, tt);
            },
            (AtBlocks d.cost, record { suits = tt; order = refl; right = (tt, tt) }, from_blocks),
          ),
        ),
      )
