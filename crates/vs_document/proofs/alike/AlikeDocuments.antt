-- Documents that the same rows stand for say the same.
use Rattle.std.proofs.Common.{◌≡◌, ℕ, zero, suc, ◌+◌, ◌<◌, Bool, List, [], ◌∷◌, ◌++◌, length, get_or, map, flat_map, drop, take, refl, sym, ap, ◌∙◌, subst, arith, ℤ, pos, All, eqb, Option, append_assoc, length-append}
use Rattle.std.specs.Prelude.{Contains}
use Rattle.std.specs.List.{AllZip, enumerate_from, range_with_len}
use Rattle.std.specs.Int.{bit_at}
use Rattle.std.proofs.lemmas.Bool.{eq-eqb}
use Rattle.std.proofs.lemmas.List.{drop_at, ext_get_or, length-map, take_at}
use Rattle.std.proofs.lemmas.List.Elements.{All-head, All-tail}
use Rattle.std.proofs.lemmas.List.FromFn.{get_or-range_with_len, length-range_with_len}
use Rattle.vs_types.proofs.CallerLemmas.{Contains-filter}
use Rattle.vs_types.specs.declared.layer_set.LayerSet.{LayerSet}
use Rattle.vs_types.specs.declared.numbers.TripNo.{TripNo}
use Rattle.vs_instance.specs.Plan.{LayerBlock}
use Rattle.vs_instance.specs.Problem.{Problem}
use Rattle.vs_instance.specs.Ways.{Permitted, trip_of}
use Rattle.vs_plan.specs.Blocks.{blocks_of}
use Rattle.vs_prices.specs.Table.{Fits, into_price, from_price, vehicle_price}
use Rattle.vs_prices.specs.declared.table.Table.{Table}
use Rattle.vs_reader.specs.Names.{NameLists}
use Rattle.vs_reader.specs.NameRules.{AreNames}
use Rattle.vs_reader.specs.Rows.{Row}
use Rattle.vs_prices.specs.declared.claim.Claim.{Claim}
use Rattle.vs_document.specs.Alike.{AreAlike}
use Rattle.vs_rows.specs.declared.document.Document.{Document}
use Rattle.vs_rows.specs.declared.document.Shape.{Shape}
use Rattle.vs_rows.specs.declared.document.Shape.TheVariants as shape
use Rattle.vs_rows.specs.DocumentRows.{DocumentRow, ClaimRow, CostRow, BoundRow, NodesRow, BlockRow, TableRow, FleetRow, PriceRow, SplitRow, LeafRow, EndRow, SayAll, layer_rows, permitted_trips, rows_of_document, shape_row, table_rows, tables_rows}
use Rattle.vs_rows.specs.DocumentText.{Agree, DocumentText}
use Rattle.vs_document.proofs.rows.AcceptedRows.{rest_is}
use Rattle.vs_rows.proofs.CallerLemmas.{says_once}

-- of equal lists the fronts of equal length are equal, and so are the rests
same_fronts : {X : Type 0} (xs ys us vs : List X) → length xs ≡ length us → xs ++ ys ≡ us ++ vs → (xs ≡ us) × (ys ≡ vs)
same_fronts xs ys us vs size e =
    let rests : ys ≡ vs =
    sym (drop_at xs ys (length us) size) ∙ ap (drop (length us)) e ∙ drop_at us vs (length us) refl in
    let fronts : xs ≡ us =
    sym (take_at xs ys (length us) size) ∙ ap (take (length us)) e ∙ take_at us vs (length us) refl in
    (fronts, rests)

same_first : (x y : DocumentRow) (xs ys : List DocumentRow) → x ∷ xs ≡ y ∷ ys → (x ≡ y) × (xs ≡ ys)
same_first x y xs ys e = (ap (λ (rows : List DocumentRow). get_or rows 0 EndRow) e, ap (drop 1) e)

same_claim : (a b : Claim) → ClaimRow a ≡ ClaimRow b → a ≡ b
same_claim a b e = cc

same_cost : (a b : Option ℤ) → CostRow a ≡ CostRow b → a ≡ b
same_cost a b e = cc

same_bound : (a b : Option ℤ) → BoundRow a ≡ BoundRow b → a ≡ b
same_bound a b e = cc

same_nodes : (a b : ℕ) → NodesRow a ≡ NodesRow b → a ≡ b
same_nodes a b e = cc

same_block : (a b : LayerBlock) → BlockRow a ≡ BlockRow b → a ≡ b
same_block a b e = cc

same_kind : (m n : ℕ) (a b : Bool) → TableRow m a ≡ TableRow n b → a ≡ b
same_kind m n a b e = cc

same_fleet : (l m : ℕ) (a b : ℤ) → FleetRow l a ≡ FleetRow m b → a ≡ b
same_fleet l m a b e = cc

same_prices : (l m i j : ℕ) (a b c d : ℤ) → PriceRow l i a b ≡ PriceRow m j c d → (a ≡ c) × (b ≡ d)
same_prices l m i j a b c d e = (cc, cc)

-- the rows don't begin with a block, or with a table
abbrev NoBlock : List DocumentRow → Type 0
NoBlock [] = Unit {0}
NoBlock (BlockRow b ∷ rows) = ⊥
NoBlock (said ∷ rows) = Unit {0}

abbrev NoTable : List DocumentRow → Type 0
NoTable [] = Unit {0}
NoTable (TableRow n ray ∷ rows) = ⊥
NoTable (said ∷ rows) = Unit {0}

same_blocks : (bs cs : List LayerBlock) (xs ys : List DocumentRow) → NoBlock xs → NoBlock ys
    → map BlockRow bs ++ xs ≡ map BlockRow cs ++ ys → (bs ≡ cs) × (xs ≡ ys)
same_blocks [] [] xs ys no_x no_y e = (refl, e)
same_blocks [] (c ∷ cs) xs ys no_x no_y e = absurd (subst NoBlock e no_x)
same_blocks (b ∷ bs) [] xs ys no_x no_y e = absurd (subst NoBlock (sym e) no_y)
same_blocks (b ∷ bs) (c ∷ cs) xs ys no_x no_y e =
    let parts = same_first (BlockRow b) (BlockRow c) (map BlockRow bs ++ xs) (map BlockRow cs ++ ys) e in
    let rest = same_blocks bs cs xs ys no_x no_y parts.1 in
    (ap (λ (x : LayerBlock). x ∷ bs) (same_block b c parts.0) ∙ ap (λ (x : List LayerBlock). c ∷ x) rest.0, rest.1)

leaf_number : (a b : ℕ) → LeafRow a ≡ LeafRow b → a ≡ b
leaf_number a b e = cc

split_same : (t u : TripNo) (a b : LayerSet) → SplitRow t a ≡ SplitRow u b → shape.Split t a ≡ shape.Split u b
split_same t u a b e =
    let trip : t ≡ u = cc in
    let left : a ≡ b = cc in
    ap (λ (x : TripNo). shape.Split x a) trip ∙ ap (λ (x : LayerSet). shape.Split u x) left

no_end : (s : Shape) → shape_row s ≡ EndRow → ⊥
no_end (shape.Leaf table) e = absurd (cc)
no_end (shape.Split trip left) e = absurd (cc)

same_shape : (s t : Shape) → shape_row s ≡ shape_row t → s ≡ t
same_shape (shape.Leaf a) (shape.Leaf b) e =
    let number : a + 1 ≡ b + 1 = leaf_number (a + 1) (b + 1) e in ap shape.Leaf (omega arith)
same_shape (shape.Leaf a) (shape.Split trip left) e = absurd (cc)
same_shape (shape.Split trip left) (shape.Leaf b) e = absurd (cc)
same_shape (shape.Split trip left) (shape.Split trip' left') e = split_same trip trip' left left' e

same_shapes : (ss ts : List Shape) → map shape_row ss ++ EndRow ∷ [] ≡ map shape_row ts ++ EndRow ∷ [] → ss ≡ ts
same_shapes [] [] e = refl
same_shapes [] (t ∷ ts) e = absurd (no_end t (sym (same_first EndRow (shape_row t) [] (map shape_row ts
    ++ EndRow ∷ []) e).0))
same_shapes (s ∷ ss) [] e =
    absurd (no_end s (same_first (shape_row s) EndRow (map shape_row ss ++ EndRow ∷ []) [] e).0)
same_shapes (s ∷ ss) (t ∷ ts) e =
    let parts = same_first (shape_row s) (shape_row t) (map shape_row ss ++ EndRow ∷ []) (map shape_row ts
    ++ EndRow ∷ []) e in
    ap (λ (x : Shape). x ∷ ss) (same_shape s t parts.0) ∙ ap (λ (x : List Shape). t ∷ x) (same_shapes ss ts parts.1)

-- equal rows for each of some numbers are equal one by one
same_map : (f g : ℕ → DocumentRow) (xs : List ℕ) → map f xs ≡ map g xs → (x : ℕ) → Contains xs x → f x ≡ g x
same_map f g [] e x among = absurd (omega (arith, among.1))
same_map f g (y ∷ xs) e x (zero, lt, is) =
    let parts = same_first (f y) (g y) (map f xs) (map g xs) e in
    sym (ap f is) ∙ parts.0 ∙ ap g is
same_map f g (y ∷ xs) e x (suc k, lt, is) =
    let parts = same_first (f y) (g y) (map f xs) (map g xs) e in
    same_map f g xs parts.1 x (k, omega arith, is)

module _ (p : Problem) (t u : Table) where
  layer_size : (l : ℕ) → length (layer_rows p t l) ≡ length (layer_rows p u l)
  layer_size l =
      ap suc (length-map (permitted_trips p l) (λ (i : ℕ). PriceRow l i (into_price p t l i) (from_price p t l i))
      ∙ sym (length-map (permitted_trips p l) (λ (i : ℕ). PriceRow l i (into_price p u l i) (from_price p u l i))))

  layers_size : (ls : List ℕ) → length (flat_map (layer_rows p t) ls) ≡ length (flat_map (layer_rows p u) ls)
  layers_size [] = refl
  layers_size (l ∷ ls) =
      omega (
        arith,
        layers_size ls,
        layer_size l,
        length-append (layer_rows p t l) (flat_map (layer_rows p t) ls),
        length-append (layer_rows p u l) (flat_map (layer_rows p u) ls),
      )

  same_layers : (ls : List ℕ) → flat_map (layer_rows p t) ls ≡ flat_map (layer_rows p u) ls → (l : ℕ) → Contains ls l
      → layer_rows p t l ≡ layer_rows p u l
  same_layers [] e l among = absurd (omega (arith, among.1))
  same_layers (m ∷ ls) e l (zero, lt, is) =
      let parts = same_fronts (layer_rows p t m) (flat_map (layer_rows p t) ls) (layer_rows p u m)
      (flat_map (layer_rows p u) ls) (layer_size m) e in
      sym (ap (layer_rows p t) is) ∙ parts.0 ∙ ap (layer_rows p u) is
  same_layers (m ∷ ls) e l (suc k, lt, is) =
      let parts = same_fronts (layer_rows p t m) (flat_map (layer_rows p t) ls) (layer_rows p u m)
      (flat_map (layer_rows p u) ls) (layer_size m) e in
      same_layers ls parts.1 l (k, omega arith, is)

  in_range : (n k : ℕ) → k < n → Contains (range_with_len 0 n) k
  in_range n k lt =
      (k, omega (arith, length-range_with_len 0 n), get_or-range_with_len 0 n k k lt ∙ omega arith)

  may_be_run : (l i : ℕ) → i < length p.trips → Permitted p l i → Contains (permitted_trips p l) i
  may_be_run l i lt may =
      Contains-filter (λ k. eqb (bit_at (trip_of p k).layers.0 l) 1) (range_with_len 0 (length p.trips)) i
      (in_range (length p.trips) i lt) (eq-eqb _ 1 may)

  pub same_table : (n : ℕ) → Fits p t → Fits p u → table_rows p (n, t) ≡ table_rows p (n, u) → Agree p t u
  same_table n fits_t fits_u e =
      let ls = range_with_len 0 (length p.layers) in
      let parts = same_first (TableRow n t.ray) (TableRow n u.ray) (flat_map (layer_rows p t) ls)
      (flat_map (layer_rows p u) ls) e in
      let layer : (l : ℕ) → l < length p.layers → layer_rows p t l ≡ layer_rows p u l = λ l lt.
      same_layers ls parts.1 l (in_range (length p.layers) l lt) in
      let prices : (l i : ℕ) → l < length p.layers → i < length p.trips → Permitted p l i
      → (into_price p t l i ≡ into_price p u l i) × (from_price p t l i ≡ from_price p u l i) = λ l i lt within may.
      same_prices l l i i (into_price p t l i) (from_price p t l i) (into_price p u l i) (from_price p u l i)
      (same_map (λ k. PriceRow l k (into_price p t l k) (from_price p t l k))
      (λ k. PriceRow l k (into_price p u l k) (from_price p u l k)) (permitted_trips p l) (ap (drop 1) (layer l lt)) i
      (may_be_run l i within may)) in
      record {
        ray = same_kind n n t.ray u.ray parts.0;
        fleet = ext_get_or (pos 0) t.fleet.items u.fleet.items (fits_t.fleet_size ∙ sym fits_u.fleet_size)
            (λ l lt. same_fleet l l (vehicle_price t l) (vehicle_price u l)
            (ap (λ (rows : List DocumentRow). get_or rows 0 EndRow) (layer l (omega (arith, fits_t.fleet_size)))));
        into = λ l i lt within may. (prices l i lt within may).0;
        from = λ l i lt within may. (prices l i lt within may).1;
      }

module _ (p : Problem) where
  same_tables : (n : ℕ) (ts us : List Table) (xs ys : List DocumentRow) → All (Fits p) ts → All (Fits p) us → NoTable xs
      → NoTable ys → flat_map (table_rows p) (enumerate_from n ts) ++ xs
      ≡ flat_map (table_rows p) (enumerate_from n us) ++ ys → AllZip (Agree p) ts us × (xs ≡ ys)
  same_tables n [] [] xs ys a b no_x no_y e = (tt, e)
  same_tables n [] (u ∷ us) xs ys a b no_x no_y e = absurd (subst NoTable e no_x)
  same_tables n (t ∷ ts) [] xs ys a b no_x no_y e = absurd (subst NoTable (sym e) no_y)
  same_tables n (t ∷ ts) (u ∷ us) xs ys a b no_x no_y e =
      let more_t = flat_map (table_rows p) (enumerate_from (n + 1) ts) in
      let more_u = flat_map (table_rows p) (enumerate_from (n + 1) us) in
      let size : length (table_rows p (n, t)) ≡ length (table_rows p (n, u)) =
      ap suc (layers_size p t u (range_with_len 0 (length p.layers))) in
      let parts = same_fronts (table_rows p (n, t)) (more_t ++ xs) (table_rows p (n, u)) (more_u ++ ys) size
      (sym (append_assoc (table_rows p (n, t)) more_t xs) ∙ e ∙ append_assoc (table_rows p (n, u)) more_u ys) in
      let rest = same_tables (n + 1) ts us xs ys (All-tail (Fits p) t ts a) (All-tail
      (Fits p) u us b) no_x no_y parts.1 in
      ((same_table p t u n (All-head (Fits p) t ts a) (All-head (Fits p) u us b) parts.0, rest.0), rest.1)

  end_no_block : (ss : List Shape) → NoBlock (map shape_row ss ++ EndRow ∷ [])
  end_no_block [] = tt
  end_no_block (shape.Leaf table ∷ ss) = tt
  end_no_block (shape.Split trip left ∷ ss) = tt

  end_no_table : (ss : List Shape) → NoTable (map shape_row ss ++ EndRow ∷ [])
  end_no_table [] = tt
  end_no_table (shape.Leaf table ∷ ss) = tt
  end_no_table (shape.Split trip left ∷ ss) = tt

  tables_no_block : (ts : List Table) (ss : List Shape)
      → NoBlock (tables_rows p ts ++ (map shape_row ss ++ EndRow ∷ []))
  tables_no_block [] ss = end_no_block ss
  tables_no_block (t ∷ ts) ss = tt

  -- rows say one list of things
  say_once : (names : NameLists) → AreNames names.layers → AreNames names.trips → (rows : List Row)
      (a b : List DocumentRow) → SayAll names rows a → SayAll names rows b → a ≡ b
  say_once names layers trips [] [] [] x y = refl
  say_once names layers trips [] [] (b ∷ bs) x y = absurd y
  say_once names layers trips [] (a ∷ as') b x y = absurd x
  say_once names layers trips (row ∷ rows) [] b x y = absurd x
  say_once names layers trips (row ∷ rows) (a ∷ more) [] x y = absurd y
  say_once names layers trips (row ∷ rows) (a ∷ more) (b ∷ other) x y =
      ap (λ (z : DocumentRow). z ∷ more) (says_once names row layers trips a b x.0 y.0)
      ∙ ap (λ (zs : List DocumentRow). b ∷ zs) (say_once names layers trips rows more other x.1 y.1)

  pub alike : (names : NameLists) (rows : List Row) (d e : Document) → AreNames names.layers → AreNames names.trips
      → DocumentText p names rows d → DocumentText p names rows e → AreAlike p d e
  alike names rows d e layers trips one two =
      let same = say_once names layers trips rows (rows_of_document p d)
      (rows_of_document p e) one.rows_say two.rows_say in
      let all = sym (rest_is p d) ∙ same ∙ rest_is p e in
      let claim = same_first (ClaimRow d.claim) (ClaimRow e.claim) _ _ all in
      let cost = same_first (CostRow d.cost) (CostRow e.cost) _ _ claim.1 in
      let bound = same_first (BoundRow d.bound) (BoundRow e.bound) _ _ cost.1 in
      let nodes = same_first (NodesRow d.nodes) (NodesRow e.nodes) _ _ bound.1 in
      let blocks = same_blocks (blocks_of d.plan) (blocks_of e.plan)
      (tables_rows p d.tables.items ++ (map shape_row d.shape.items ++ EndRow ∷ []))
      (tables_rows p e.tables.items ++ (map shape_row e.shape.items ++ EndRow ∷ []))
      (tables_no_block d.tables.items d.shape.items) (tables_no_block e.tables.items e.shape.items) nodes.1 in
      let tables = same_tables 1 d.tables.items e.tables.items (map shape_row d.shape.items ++ EndRow ∷ [])
      (map shape_row e.shape.items ++ EndRow ∷ []) one.has_text.fits two.has_text.fits (end_no_table d.shape.items)
      (end_no_table e.shape.items) blocks.1 in
      record {
        claim = same_claim d.claim e.claim claim.0;
        cost = same_cost d.cost e.cost cost.0;
        bound = same_bound d.bound e.bound bound.0;
        nodes = same_nodes d.nodes e.nodes nodes.0;
        blocks = blocks.0;
        tables = tables.0;
        shape = same_shapes d.shape.items e.shape.items tables.1;
      }
