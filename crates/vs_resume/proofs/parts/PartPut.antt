-- What a search of a part is, for those who put it in the place of a leaf.
use Rattle.std.proofs.Common.{◌≡◌, ℕ, zero, suc, ◌+◌, ◌<◌, ◌≤◌, List, [], ◌∷◌, length, get_or, sym, ap, ◌∙◌, subst, arith, Some, slice_get, slice_index_or}
use Rattle.std.specs.List.{All}
use Rattle.std.proofs.lemmas.List.{length-map}
use Rattle.std.proofs.lemmas.List.Elements.{All-append, All-cons, All-head, All-nil, All-tail}
use Rattle.std.proofs.lemmas.Option.{slice_get-get_or, slice_get_within}
use Rattle.std.proofs.lemmas.Slice.Zip.{AllZip-long}
use Rattle.vs_types.specs.declared.layer_set.LayerSet.{LayerSet}
use Rattle.vs_instance.specs.Instance.{IsInstance}
use Rattle.vs_instance.specs.Narrowed.{narrowed}
use Rattle.vs_instance.specs.Problem.{Problem}
use Rattle.vs_instance.specs.Restriction.{IsRestriction, permitted_sets}
use Rattle.vs_instance.proofs.CallerLemmas.{permitted_sets-IsRestriction}
use Rattle.vs_prices.specs.Table.{Fits, HoldingTable}
use Rattle.vs_prices.specs.declared.table.Table.{Table}
use Rattle.vs_prices.specs.Tree.{IsGoodTree, Leaf, LeafPlace, Split, Tree, leaves, right_of, with_set}
use Rattle.vs_prices.proofs.CallerLemmas.{leaves_restrict}
use Rattle.vs_rows.specs.Shapes.{preorder}
use Rattle.vs_rows.specs.declared.document.Shape.{Shape}
use Rattle.vs_rows.specs.declared.document.Shape.TheVariants as row
use Rattle.vs_rows.proofs.CallerLemmas.{all_at}
use Rattle.vs_tree.specs.History.{IsHistory, State}
use Rattle.vs_tree.specs.Prices.{no_prices}
use Rattle.vs_tree.specs.Search.{Search, state}
use Rattle.vs_tree.specs.Sound.{IsOpening, IsSound}
use Rattle.vs_tree.proofs.CallerLemmas.{histories_are_sound}
use Rattle.vs_cert.specs.StateDocument.{IsRenumbered}
use Rattle.vs_cert.specs.TreeRows.{AreRowsOf}
use Rattle.vs_cert.proofs.CallerLemmas.{numbers_within, renumbered_good}
use Rattle.vs_resume.specs.declared.cases.Case.{Case}
use Rattle.vs_resume.specs.declared.course.Course.{Course}
use Rattle.vs_resume.specs.declared.deepen.TheConstants.{MAX_TURN}
use Rattle.vs_resume.specs.Cases.{AreCasesOf, AreCasesOfRows, AreGoodRows, IsCaseOf}
use Rattle.vs_resume.specs.Courses.{AreNext, IsCaseAt, IsSomeCourse}
use Rattle.vs_resume.specs.InPlace.{row_of_leaf}
use Rattle.vs_resume.specs.Parts.{AreWidenedTables, IsWidenedFrom}
use Rattle.vs_resume.specs.Order.{worths_in}
use Rattle.vs_resume.specs.Standing.{Standing}
use Rattle.vs_resume.proofs.trees.InPlace.{count-leaves, leaf_rows, leaf_rows-preorder}
use Rattle.vs_resume.proofs.trees.Outlines.{leaf_rows-plain}
use Rattle.vs_resume.proofs.parts.PartTables.{sets_of_part}
use Rattle.vs_resume.proofs.trees.Zips.{zip-beside}

-- leaves that name tables by their places among numbers name places that there are
places_within : (numbers : List ℕ) (t u : Tree) (sets : List LayerSet) → IsRenumbered numbers t u
    → All (λ leaf. leaf.table < length numbers) (leaves sets u)
places_within numbers (Leaf table) (Leaf place) sets same =
    let Within : LeafPlace → Type 0 = λ leaf. leaf.table < length numbers in
    All-cons Within (record { sets = sets; table = place }) [] (slice_get_within numbers place table same)
    (All-nil Within)
places_within numbers (Leaf table) (Split also part first second) sets same = absurd same
places_within numbers (Split trip left lower upper) (Leaf place) sets same = absurd same
places_within numbers (Split trip left lower upper) (Split also part first second) sets same =
    All-append (λ (leaf : LeafPlace). leaf.table < length numbers) (leaves (with_set sets also part) first)
    (leaves (with_set sets also (right_of sets also part)) second)
    (places_within numbers lower first (with_set sets also part) same.2)
    (places_within numbers upper second (with_set sets also (right_of sets also part)) same.3)

-- widened tables fit
pub widened_fit : (p : Problem) (sets : List LayerSet) (s : State) (numbers : List ℕ) (tables : List Table)
    → AreWidenedTables p sets s numbers tables → All (Fits p) tables
widened_fit p sets s [] [] are = All-nil (Fits p)
widened_fit p sets s [] (table ∷ tables) are = absurd are
widened_fit p sets s (n ∷ numbers) [] are = absurd are
widened_fit p sets s (n ∷ numbers) (table ∷ tables) are =
    All-cons (Fits p) table tables are.0.fits (widened_fit p sets s numbers tables are.1)

-- cases have the layers of their leaves, and name tables that there are
cases_restrict : (p : Problem) (tables : List Table) (places : List LeafPlace) (cases : List Case)
    → AreCasesOf p tables places cases → All (λ leaf. IsRestriction p leaf.sets) places
    → All (λ found. IsRestriction p found.sets.items) cases
cases_restrict p tables [] [] are each = All-nil (λ (found : Case). IsRestriction p found.sets.items)
cases_restrict p tables [] (found ∷ cases) are each = absurd are
cases_restrict p tables (leaf ∷ places) [] are each = absurd are
cases_restrict p tables (leaf ∷ places) (found ∷ cases) are each =
    let Restricts : LeafPlace → Type 0 = λ place. IsRestriction p place.sets in
    All-cons (λ (other : Case). IsRestriction p other.sets.items) found cases
    (subst (IsRestriction p) (sym are.0.sets) (All-head Restricts leaf places each))
    (cases_restrict p tables places cases are.1 (All-tail Restricts leaf places each))

cases_few : (p : Problem) (tables : List Table) (base limit : ℕ) → base + length tables ≤ limit
    → (places : List LeafPlace) (cases : List Case) → AreCasesOf p tables places cases
    → All (λ found. base + found.table < limit) cases
cases_few p tables base limit few [] [] are = All-nil (λ (found : Case). base + found.table < limit)
cases_few p tables base limit few [] (found ∷ cases) are = absurd are
cases_few p tables base limit few (leaf ∷ places) [] are = absurd are
cases_few p tables base limit few (leaf ∷ places) (found ∷ cases) are =
    let here = are.0 in
    let inside = slice_get_within tables leaf.table here.table here.named in
    let number = here.number in
    All-cons (λ (other : Case). base + other.table < limit) found cases (omega (arith, inside, number, few))
    (cases_few p tables base limit few places cases are.1)

-- the rows of a search of the part that these sets leave
module _ (p : Problem) (sets : List LayerSet) (restricts : IsRestriction p sets) (t : Search)
    (of_part : t.opening.problem ≡ narrowed p sets) (opening : IsOpening t.opening)
    (history : IsHistory t.opening t.steps) (numbers : List ℕ) (rows : List Shape)
    (are : AreRowsOf t.opening (state t) numbers rows) where
  sound : IsSound t.opening (state t)
  sound = histories_are_sound t.opening t.steps opening history

  pub part_numbers : All (λ n. n < length (state t).tables) numbers
  part_numbers = numbers_within t.opening (state t) sound numbers rows are

  pub few_numbers : t.opening.budget ≤ MAX_TURN → length numbers ≤ MAX_TURN + 1
  few_numbers budget =
      let few = are.few in
      let count = sound.count_tables in
      let spent = sound.budget in
      omega (arith, few, count, spent, budget)

  good_part : IsGoodTree sets are.shape
  good_part =
      subst (λ (root : List LayerSet). IsGoodTree root are.shape)
      (ap (λ (q : Problem). permitted_sets q) of_part ∙ sets_of_part p sets restricts)
      (renumbered_good numbers are.tree are.shape (permitted_sets t.opening.problem) are.renumbered
      are.is_tree.good)

  module _ (tables : List Table) (widened : AreWidenedTables p sets (state t) numbers tables) where
    pub as_many : length tables ≡ length numbers
    as_many =
        AllZip-long (λ n table. IsWidenedFrom p sets (slice_index_or (state t).tables n no_prices) table) numbers
        tables widened

    pub good_rows : AreGoodRows sets (length tables) rows
    good_rows = record {
      tree = are.shape;
      rows_are = are.rows_are;
      good = good_part;
      named = subst (λ (n : ℕ). All (λ (leaf : LeafPlace). leaf.table < n) (leaves sets are.shape)) (sym as_many)
          (places_within numbers are.tree are.shape sets are.renumbered);
    }

    -- its cases
    module _ (cases : List Case) (are_cases : AreCasesOfRows p tables sets rows cases) where
      pub each_restricts : All (λ found. IsRestriction p found.sets.items) cases
      each_restricts =
          cases_restrict p tables (leaves sets are.shape) cases (are_cases are.shape are.rows_are)
          (leaves_restrict p sets are.shape restricts good_part)

      pub each_few : (base limit : ℕ) → base + length tables ≤ limit
          → All (λ found. base + found.table < limit) cases
      each_few base limit few =
          cases_few p tables base limit few (leaves sets are.shape) cases (are_cases are.shape are.rows_are)

-- where a leaf stands among rows, there is its row
row_within : (rows : List Shape) (k : ℕ) → k < leaf_rows rows → row_of_leaf rows k < length rows
row_within [] k below = absurd (omega (arith, below))
row_within (row.Leaf table ∷ rows) zero below = omega arith
row_within (row.Leaf table ∷ rows) (suc k) below =
    let rest = row_within rows k (omega (arith, below)) in
    omega (arith, rest)
row_within (row.Split trip left ∷ rows) k below =
    let rest = row_within rows k below in
    omega (arith, rest)

-- leaf k of what is in memory
module _ (p : Problem) (c : Course) (course : IsSomeCourse p c) (k : ℕ) (inside : k < length c.cases.items)
    (found : Case) (read : found ≡ get_or c.cases.items k found) where
  abbrev s : Standing
  s = course.0

  abbrev places : List LeafPlace
  places = leaves (permitted_sets p) s.tree

  pub case_at : slice_get c.cases.items k ≡ Some found
  case_at = slice_get-get_or c.cases.items k found inside ∙ ap Some (sym read)

  beside : (place : LeafPlace) × (slice_get places k ≡ Some place) × IsCaseOf p c.tables.items place found
  beside = zip-beside (IsCaseOf p c.tables.items) k places c.cases.items found course.1.cases case_at

  pub leaf_restricts : IsInstance p → IsRestriction p found.sets.items
  leaf_restricts is =
      subst (IsRestriction p) (sym beside.2.sets)
      (all_at (λ (place : LeafPlace). IsRestriction p place.sets) places k beside.0
      (leaves_restrict p (permitted_sets p) s.tree (permitted_sets-IsRestriction p is) course.1.good) beside.1)

  pub table_within : found.table < length c.tables.items
  table_within =
      let there = slice_get_within c.tables.items beside.0.table beside.2.table beside.2.named in
      let number = beside.2.number in
      omega (arith, there, number)

  pub row_there : row_of_leaf c.rows.items k < length c.rows.items
  row_there =
      let here = slice_get_within places k beside.0 beside.1 in
      let rows = leaf_rows-plain c.rows.items in
      let same = ap leaf_rows course.1.outline in
      let all = leaf_rows-plain (preorder s.tree) in
      row_within c.rows.items k
      (omega (arith, here, rows, same, all, leaf_rows-preorder s.tree, count-leaves (permitted_sets p) s.tree))

  module _ (table : Table) (of_table : table ≡ get_or c.tables.items found.table table) where
    pub table_stands : slice_get c.tables.items found.table ≡ Some table
    table_stands = slice_get-get_or c.tables.items found.table table table_within ∙ ap Some (sym of_table)

    pub table_fits : Fits p table
    table_fits =
        (all_at (λ (t : Table). Fits p t × HoldingTable p t) c.tables.items found.table table course.1.lawful
        table_stands).0

-- the leaf that comes next is there
pub next_within : (c : Course) (k : ℕ) → AreNext c k → k < length c.cases.items
next_within c k next =
    let inside = slice_get_within (worths_in c.cases.items) k next.0 next.1.stands in
    omega (arith, inside, length-map c.cases.items (λ (found : Case). found.worth))

-- one leaf has one list of layers
pub same_sets : (c : Course) (k : ℕ) (found other : Case) → IsCaseAt c k found → IsCaseAt c k other
    → other.sets.items ≡ found.sets.items
same_sets c k found other here there =
    let both : Some other ≡ Some found = sym there ∙ here in
    let same : other ≡ found = cc in
    ap (λ f. f.sets.items) same
