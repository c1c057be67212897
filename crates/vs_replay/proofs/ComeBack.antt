-- A document of the state to which a trace replays is written as one of the search's own state.
use Rattle.std.proofs.Common.{◌≡◌, ℕ, ◌+◌, ◌<◌, ◌^◌, Bool, true, List, [], ◌∷◌, ◌++◌, length, get_or, map, refl, sym, ap, ◌∙◌, subst, arith, inl, inr, ◌⊎◌, ℤ}
use Rattle.std.specs.Prelude.{flat_map, ◌==◌}
use Rattle.std.specs.Int.{bit_at}
use Rattle.std.specs.List.{All, enumerate_from, range_with_len}
use Rattle.std.proofs.lemmas.Bool.{eqb-true}
use Rattle.std.proofs.lemmas.List.{length-map}
use Rattle.std.proofs.lemmas.List.Elements.{All-cons, All-filter, All-head, All-nil, All-tail, AllZip-get_or, filter_passes}
use Rattle.vs_instance.specs.HoldingTable.{price_of}
use Rattle.vs_instance.specs.Problem.{Problem}
use Rattle.vs_instance.specs.Ways.{trip_of}
use Rattle.vs_prices.specs.Tree.{Tree}
use Rattle.vs_cert.specs.StateDocument.{IsDocumentOf, first_times, tables_named}
use Rattle.vs_cert.specs.TreeText.{prices_of_number, prices_rows}
use Rattle.vs_cert.proofs.CallerLemmas.{named_within, tables_rows-prices, vec-items, vec_of}
use Rattle.vs_prices.specs.Table.{Fits, from_price, into_price, vehicle_price}
use Rattle.vs_prices.specs.declared.bound.Bound.{Bound}
use Rattle.vs_prices.specs.declared.table.Table.{Table}
use Rattle.vs_reader.specs.Names.{NameLists}
use Rattle.vs_replay.specs.Alike.{AreAlike, IsTold}
use Rattle.vs_replay.proofs.ToldSteps.{AreTold, same_is, told_histories_come_back, with_told, worth_here, worth_there}
use Rattle.vs_rows.specs.DocumentRows.{BlockRow, DocumentRow, EndRow, FleetRow, PriceRow, TableRow, document_rows, head_rows, layer_rows, permitted_trips, shape_row, table_rows, tables_rows, written_rows}
use Rattle.vs_rows.specs.DocumentText.{Agree, HasText}
use Rattle.vs_rows.specs.Shapes.{IsShapeOf}
use Rattle.vs_rows.specs.declared.document.Document.{Document}
use Rattle.vs_rows.proofs.CallerLemmas.{all_below}
use Rattle.vs_plan.specs.Blocks.{blocks_of}
use Rattle.vs_trace.specs.Traces.{told_opening, told_steps}
use Rattle.vs_trace.specs.declared.trace.Trace.{Trace}
use Rattle.vs_tree.specs.History.{FullStep, IsHistory, Opening, State, known, state_of}
use Rattle.vs_tree.specs.Prices.{Prices, no_prices, prices_of}
use Rattle.vs_tree.specs.Report.{IsLesser, IsReached, IsReport, bound_of}
use Rattle.vs_tree.specs.Sound.{IsOpening, IsSound}
use Rattle.vs_tree.specs.StateTree.{IsTreeOf}
use Rattle.vs_tree.specs.Takes.{held_leaves}
use Rattle.vs_tree.specs.declared.calls.Report.{Report}
use Rattle.vs_tree.proofs.CallerLemmas.{histories_are_sound}
use Rattle.vs_replay.specs.Laws.{DocumentsComeBack}

-- what is the same for each of some numbers is the same for all
same_map : (f g : ℕ → DocumentRow) (ks : List ℕ) → All (λ k. f k ≡ g k) ks → map f ks ≡ map g ks
same_map f g [] same = refl
same_map f g (k ∷ ks) same =
    ap (λ (x : DocumentRow). x ∷ map f ks) (All-head (λ (j : ℕ). f j ≡ g j) k ks same)
    ∙ ap (λ (xs : List DocumentRow). g k ∷ xs) (same_map f g ks (All-tail (λ (j : ℕ). f j ≡ g j) k ks same))

same_rows : (f g : ℕ → List DocumentRow) (ks : List ℕ) → All (λ k. f k ≡ g k) ks → flat_map f ks ≡ flat_map g ks
same_rows f g [] same = refl
same_rows f g (k ∷ ks) same =
    ap (λ (x : List DocumentRow). x ++ flat_map f ks) (All-head (λ (j : ℕ). f j ≡ g j) k ks same)
    ∙ ap (λ (xs : List DocumentRow). g k ++ xs) (same_rows f g ks (All-tail (λ (j : ℕ). f j ≡ g j) k ks same))

-- tables that agree have the same rows
module _ (p : Problem) (t u : Table) (agree : Agree p t u) where
  layer_same : (l : ℕ) → l < length p.layers → layer_rows p t l ≡ layer_rows p u l
  layer_same l layer =
      let passes : ℕ → Bool = λ i. bit_at (trip_of p i).layers.0 l == 1 in
      let row : Table → ℕ → DocumentRow = λ x i. PriceRow l i (into_price p x l i) (from_price p x l i) in
      let numbers = range_with_len 0 (length p.trips) in
      let inside : All (λ i. i < length p.trips) (permitted_trips p l) =
      All-filter passes (λ i. i < length p.trips) numbers (all_below (length p.trips)) in
      let may : All (λ i. passes i ≡ true) (permitted_trips p l) = filter_passes passes numbers in
      let each : All (λ i. row t i ≡ row u i) (permitted_trips p l) = λ k d lt.
      let i : ℕ = get_or (permitted_trips p l) k d in
      let at = inside k d lt in
      let permitted = eqb-true (bit_at (trip_of p i).layers.0 l) 1 (may k d lt) in
      ap (λ (x : ℤ). PriceRow l i x (from_price p t l i)) (agree.into l i layer at permitted)
      ∙ ap (λ (x : ℤ). PriceRow l i (into_price p u l i) x) (agree.from l i layer at permitted) in
      ap (λ (x : ℤ). FleetRow l x ∷ map (row t) (permitted_trips p l))
      (ap (λ (prices : List ℤ). price_of prices l) agree.fleet)
      ∙ ap (λ (rows : List DocumentRow). FleetRow l (vehicle_price u l) ∷ rows)
      (same_map (row t) (row u) (permitted_trips p l) each)

  table_same : (n : ℕ) → table_rows p (n, t) ≡ table_rows p (n, u)
  table_same n =
      let layers = range_with_len 0 (length p.layers) in
      let each : All (λ l. layer_rows p t l ≡ layer_rows p u l) layers = λ k d lt.
      layer_same (get_or layers k d) (all_below (length p.layers) k d lt) in
      ap (λ (ray : Bool). TableRow n ray ∷ flat_map (layer_rows p t) layers) agree.ray
      ∙ ap (λ (rows : List DocumentRow). TableRow n u.ray ∷ rows)
      (same_rows (layer_rows p t) (layer_rows p u) layers each)

-- and so have prices that say the same
prices_same : (p : Problem) (a b : Prices) (n : ℕ) → AreAlike p a b → prices_rows p (n, a) ≡ prices_rows p (n, b)
prices_same p a b n alike =
    ap (λ (x : Prices). prices_rows p (n, x)) (sym alike.one_is)
    ∙ table_same p alike.one alike.other alike.agree n
    ∙ ap (λ (x : Prices). prices_rows p (n, x)) alike.other_is

module _ (o : Opening) (opening : IsOpening o) (s : State) (sound : IsSound o s) (tables : List Prices)
    (offered : List ℕ) (told : AreTold o opening s tables offered) where
  abbrev p : Problem
  p = o.problem

  abbrev u : State
  u = with_told s tables offered

  -- what the second state reports the first one reports
  lesser : (bound : Bound) → IsLesser p u bound → IsLesser p s bound
  lesser bound is = record {
    leaves = λ k worth leaf of_leaf. is.leaves k worth leaf
        (worth_there o opening s tables offered sound told k worth leaf of_leaf);
    cost = is.cost;
    reached = reached is.reached;
  }
    where
      reached : (bound ≡ bound_of (known s)) ⊎ IsReached p u bound → (bound ≡ bound_of (known s)) ⊎ IsReached p s bound
      reached (inl same) = inl same
      reached (inr at) = inr (record {
        leaf = at.leaf;
        is_leaf = at.is_leaf;
        worth = worth_here o opening s tables offered sound told at.leaf bound at.is_leaf at.worth;
      })

  report : (r : Report) → IsReport p u r → IsReport p s r
  report r is = record {
    cost = is.cost;
    bound = lesser (bound_of r.bound) is.bound;
    claim = is.claim;
    finished = is.finished;
  }

  tree : (t : Tree) → IsTreeOf p u t → IsTreeOf p s t
  tree t is = record {
    spots = is.spots;
    is_tree = is.is_tree;
    good = is.good;
    leaves_are = is.leaves_are;
    once = is.once;
    splits_are = is.splits_are;
  }

  -- tables of the prices of these numbers
  record HasTables (numbers : List ℕ) : Type 0 where
    own : List Table
    listed : map prices_of own ≡ map (prices_of_number s) numbers
    fits : All (Fits p) own

  some_tables : (numbers : List ℕ) → All (λ n. n < length s.tables) numbers → HasTables numbers
  some_tables [] all = record { own = []; listed = refl; fits = All-nil (Fits p) }
  some_tables (n ∷ numbers) all =
      let lawful = sound.tables n no_prices (All-head (λ (k : ℕ). k < length s.tables) n numbers all) in
      let rest = some_tables numbers (All-tail (λ (k : ℕ). k < length s.tables) n numbers all) in
      record {
        own = lawful.table ∷ rest.own;
        listed = ap (λ (x : Prices). x ∷ map prices_of rest.own) lawful.listed
            ∙ ap (λ (xs : List Prices). prices_of_number s n ∷ xs) rest.listed;
        fits = All-cons (Fits p) lawful.table rest.own lawful.fits rest.fits;
      }

  -- the prices of these numbers have the same rows in both states
  rows_same : (k : ℕ) (numbers : List ℕ) → All (λ n. n < length s.tables) numbers
      → flat_map (prices_rows p) (enumerate_from k (map (prices_of_number u) numbers))
      ≡ flat_map (prices_rows p) (enumerate_from k (map (prices_of_number s) numbers))
  rows_same k [] all = refl
  rows_same k (n ∷ numbers) all =
      let within = All-head (λ (j : ℕ). j < length s.tables) n numbers all in
      let alike : AreAlike p (prices_of_number s n) (prices_of_number u n) =
      AllZip-get_or (AreAlike p) s.tables tables n no_prices no_prices told.tables within in
      let rest = rows_same (k + 1) numbers (All-tail (λ (j : ℕ). j < length s.tables) n numbers all) in
      ap (λ (rows : List DocumentRow). rows
      ++ flat_map (prices_rows p) (enumerate_from (k + 1) (map (prices_of_number u) numbers)))
      (sym (prices_same p (prices_of_number s n) (prices_of_number u n) k alike))
      ∙ ap (λ (rows : List DocumentRow). prices_rows p (k, prices_of_number s n) ++ rows) rest

  module _ (d : Document) (is : IsDocumentOf o u d) where
    abbrev numbers : List ℕ
    numbers = first_times (tables_named is.tree)

    own_tree : IsTreeOf p s is.tree
    own_tree = tree is.tree is.is_tree

    within : All (λ n. n < length s.tables) numbers
    within = named_within o s sound is.tree own_tree

    written : HasTables numbers
    written = some_tables numbers within

    size : length written.own ≡ length d.tables.items
    size =
        sym (length-map written.own prices_of) ∙ ap (λ (xs : List Prices). length xs) written.listed
        ∙ length-map numbers (prices_of_number s) ∙ sym (length-map numbers (prices_of_number u))
        ∙ ap (λ (xs : List Prices). length xs) (sym is.tables) ∙ length-map d.tables.items prices_of

    few : length written.own < 2 ^ 63
    few = omega (arith, size, d.tables.small)

    -- the document with the search's own tables
    pub document : Document
    document = record d { tables = vec_of written.own few }

    items : document.tables.items ≡ written.own
    unfolding document
    items = vec-items written.own few

    pub of_state : IsDocumentOf o s document
    unfolding document
    of_state = record {
      report = is.report;
      is_report = report is.report is.is_report;
      claim = is.claim;
      cost = is.cost;
      bound = is.bound;
      nodes = is.nodes;
      blocks = is.blocks;
      tree = is.tree;
      is_tree = own_tree;
      shape = is.shape;
      renumbered = is.renumbered;
      rows_are = is.rows_are;
      tables = ap (map prices_of) (vec-items written.own few) ∙ written.listed;
    }

    tables_are : tables_rows p d.tables.items ≡ tables_rows p document.tables.items
    tables_are =
        tables_rows-prices p 1 d.tables.items
        ∙ ap (λ (xs : List Prices). flat_map (prices_rows p) (enumerate_from 1 xs)) is.tables
        ∙ rows_same 1 numbers within
        ∙ ap (λ (xs : List Prices). flat_map (prices_rows p) (enumerate_from 1 xs)) (sym written.listed)
        ∙ sym (tables_rows-prices p 1 written.own)
        ∙ ap (tables_rows p) (sym items)

    pub same_text : (names : NameLists) → document_rows p names d ≡ document_rows p names document
    unfolding document
    same_text names =
        ap (λ (rows : List DocumentRow). written_rows names (head_rows d ++ map BlockRow (blocks_of d.plan) ++ rows
        ++ map shape_row d.shape.items ++ EndRow ∷ [])) tables_are

    pub has_text : HasText p d → HasText p document
    unfolding document
    has_text text = record {
      cost = text.cost;
      bound = text.bound;
      no_cost = text.no_cost;
      nodes = text.nodes;
      blocks = text.blocks;
      no_blocks = text.no_blocks;
      few_tables = let count = ap (λ (xs : List Table). length xs) items in omega (arith, count, size, text.few_tables);
      fits = subst (All (Fits p)) (sym items) written.fits;
      tree = text.tree;
      shapes = subst (λ (n : ℕ). All (IsShapeOf p n) d.shape.items)
          (sym (ap (λ (xs : List Table). length xs) items ∙ size)) text.shapes;
    }

-- a document of the state to which a trace of a search replays
pub record IsOwn (o : Opening) (s : State) (names : NameLists) (d : Document) : Type 0 where
  pub own : Document
  pub of_state : IsDocumentOf o s own
  pub same : document_rows o.problem names d ≡ document_rows o.problem names own
  pub has_text : HasText o.problem d → HasText o.problem own

pub comes_back : (o : Opening) (steps : List FullStep) (t : Trace) (names : NameLists) (d : Document) → IsOpening o
    → IsHistory o steps → held_leaves (state_of o steps) ≡ 0 → IsTold o steps t
    → IsDocumentOf (told_opening o.problem t) (state_of (told_opening o.problem t) (told_steps o.problem t)) d
    → IsOwn o (state_of o steps) names d
comes_back o steps t names d opening history none told is =
    let s = state_of o steps in
    let u = state_of (told_opening o.problem t) (told_steps o.problem t) in
    let sound = histories_are_sound o steps opening history in
    let both = told_histories_come_back o steps t opening history none told in
    let there : IsDocumentOf o (with_told s u.tables u.offered) d =
    subst (λ (x : State). IsDocumentOf o x d) (same_is o.problem s u both.1)
    (subst (λ (x : Opening). IsDocumentOf x u d) told.opening is) in
    let are : AreTold o opening s u.tables u.offered =
    record { tables = both.1.tables; offered = both.1.offered } in
    record {
      own = document o opening s sound u.tables u.offered are d there;
      of_state = of_state o opening s sound u.tables u.offered are d there;
      same = same_text o opening s sound u.tables u.offered are d there names;
      has_text = has_text o opening s sound u.tables u.offered are d there;
    }

pub documents_come_back : DocumentsComeBack
documents_come_back o steps t names d opening history none told is =
    let own = comes_back o steps t names d opening history none told is in (own.own, own.of_state, own.same)
