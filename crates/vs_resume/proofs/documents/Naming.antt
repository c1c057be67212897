-- The document that names tables in the order in which leaves first do prints what is in memory.
use Rattle.std.proofs.Common.{◌≡◌, ℕ, ◌<◌, List, [], ◌∷◌, ◌++◌, length, map, refl, sym, ap, ◌∙◌, subst, arith, Some, option_map, slice_get, slice_index_or}
use Rattle.std.specs.List.{All, AllZip}
use Rattle.std.proofs.lemmas.List.{map-append}
use Rattle.std.proofs.lemmas.List.Elements.{All-cons, All-nil}
use Rattle.std.proofs.lemmas.Option.{get_or_from_slice_get, slice_get-map, slice_get_within}
use Rattle.std.proofs.lemmas.Slice.Zip.{AllZip-long}
use Rattle.vs_types.specs.declared.layer_set.LayerSet.{LayerSet}
use Rattle.vs_instance.specs.Problem.{Problem}
use Rattle.vs_instance.specs.Restriction.{permitted_sets}
use Rattle.vs_plan.specs.Blocks.{blocks_of}
use Rattle.vs_prices.specs.declared.table.Table.{Table}
use Rattle.vs_prices.specs.Tree.{Leaf, LeafPlace, Split, Tree, leaves, right_of, with_set}
use Rattle.vs_rows.specs.Shapes.{preorder}
use Rattle.vs_rows.specs.declared.document.Document.{Document}
use Rattle.vs_rows.specs.declared.document.Shape.{Shape}
use Rattle.vs_tree.specs.Prices.{Prices, no_prices, prices_of}
use Rattle.vs_cert.specs.StateDocument.{IsRenumbered, first_times, tables_named}
use Rattle.vs_resume.specs.declared.cases.Case.{Case}
use Rattle.vs_resume.specs.declared.course.Course.{Course}
use Rattle.vs_resume.specs.declared.writing.Named.{Named}
use Rattle.vs_resume.specs.Cases.{AreCasesOf}
use Rattle.vs_resume.specs.Courses.{IsCourseOf}
use Rattle.vs_resume.specs.InPlace.{count_leaves}
use Rattle.vs_resume.specs.Outlines.{with_numbers}
use Rattle.vs_resume.specs.Standing.{IsWrittenFor, Standing}
use Rattle.vs_resume.specs.Writing.{AreFirstNamed, AreTaken}
use Rattle.vs_resume.proofs.trees.InPlace.{leaf_rows, leaf_rows-preorder}
use Rattle.vs_resume.proofs.trees.Outlines.{leaf_rows-plain}
use Rattle.vs_resume.proofs.trees.Renamed.{length-named, renamed, renumbered, rows-renamed, with_numbers-plain}
use Rattle.vs_resume.proofs.worths.Settled.{tables_in}

-- the leaves of a tree name its tables
named_by_leaves : (sets : List LayerSet) (tree : Tree)
    → map (λ (leaf : LeafPlace). leaf.table) (leaves sets tree) ≡ tables_named tree
named_by_leaves sets (Leaf table) = refl
named_by_leaves sets (Split trip left lower upper) =
    let on_left = leaves (with_set sets trip left) lower in
    let on_right = leaves (with_set sets trip (right_of sets trip left)) upper in
    map-append (λ (leaf : LeafPlace). leaf.table) on_left on_right
    ∙ ap (λ (ns : List ℕ). ns ++ map (λ (leaf : LeafPlace). leaf.table) on_right)
    (named_by_leaves (with_set sets trip left) lower)
    ∙ ap (λ (ns : List ℕ). tables_named lower ++ ns)
    (named_by_leaves (with_set sets trip (right_of sets trip left)) upper)

-- and so do cases
named_by_cases : (p : Problem) (tables : List Table) (places : List LeafPlace) (cases : List Case)
    → AreCasesOf p tables places cases → tables_in cases ≡ map (λ (leaf : LeafPlace). leaf.table) places
named_by_cases p tables [] [] are = refl
named_by_cases p tables [] (found ∷ cases) are = absurd are
named_by_cases p tables (leaf ∷ places) [] are = absurd are
named_by_cases p tables (leaf ∷ places) (found ∷ cases) are =
    let rest = named_by_cases p tables places cases are.1 in
    let here = are.0.number in
    λ i. here i ∷ rest i

-- tables that were taken have the prices of those of their numbers
taken_prices : (tables some : List Table) (numbers : List ℕ) → AreTaken tables numbers some
    → map prices_of some ≡ map (λ n. slice_index_or (map prices_of tables) n no_prices) numbers
taken_prices tables [] [] taken = refl
taken_prices tables [] (n ∷ numbers) taken = absurd cc
taken_prices tables (table ∷ some) [] taken = absurd cc
taken_prices tables (table ∷ some) (n ∷ numbers) taken =
    let here : Some table ≡ slice_get tables n = cc in
    let rest : map Some some ≡ map (slice_get tables) numbers = cc in
    let is = get_or_from_slice_get (map prices_of tables) n (prices_of table) no_prices
    (slice_get-map prices_of tables n ∙ ap (option_map prices_of) (sym here)) in
    let more = taken_prices tables some numbers rest in
    λ i. sym is i ∷ more i

-- cases name tables that there are
cases_within : (p : Problem) (tables : List Table) (places : List LeafPlace) (cases : List Case)
    → AreCasesOf p tables places cases → All (λ n. n < length tables) (tables_in cases)
cases_within p tables [] [] are = All-nil (λ (n : ℕ). n < length tables)
cases_within p tables [] (found ∷ cases) are = absurd are
cases_within p tables (leaf ∷ places) [] are = absurd are
cases_within p tables (leaf ∷ places) (found ∷ cases) are =
    let here = are.0 in
    let inside = slice_get_within tables leaf.table here.table here.named in
    let number = here.number in
    All-cons (λ (n : ℕ). n < length tables) found.table (tables_in cases) (omega (arith, inside, number))
    (cases_within p tables places cases are.1)

module _ (p : Problem) (c : Course) (s : Standing) (course : IsCourseOf p c s) where
  names_are : tables_in c.cases.items ≡ tables_named s.tree
  names_are =
      named_by_cases p c.tables.items (leaves (permitted_sets p) s.tree) c.cases.items course.cases
      ∙ named_by_leaves (permitted_sets p) s.tree

  pub named_within : All (λ n. n < length c.tables.items) (tables_named s.tree)
  named_within =
      subst (All (λ (n : ℕ). n < length c.tables.items)) names_are
      (cases_within p c.tables.items (leaves (permitted_sets p) s.tree) c.cases.items course.cases)

module _ (p : Problem) (c : Course) (s : Standing) (course : IsCourseOf p c s) (named : Named)
    (are : AreFirstNamed (tables_in c.cases.items) named) (rows : List Shape)
    (numbered : rows ≡ with_numbers c.rows.items named.places.items) (some : List Table)
    (taken : AreTaken c.tables.items named.numbers.items some) where
  names : tables_in c.cases.items ≡ tables_named s.tree
  names = names_are p c s course

  pub numbers_are : named.numbers.items ≡ first_times (tables_named s.tree)
  numbers_are = are.numbers ∙ ap first_times names

  abbrev pub shape : Tree
  shape = renamed s.tree named.places.items

  abbrev Stand : List ℕ → List ℕ → Type 0
  Stand numbers all = AllZip (λ place n. slice_get numbers place ≡ Some n) named.places.items all

  stand : Stand (first_times (tables_named s.tree)) (tables_named s.tree)
  stand = subst (λ (ns : List ℕ). Stand ns (tables_named s.tree)) numbers_are
      (subst (Stand named.numbers.items) names are.places)

  as_many : length named.places.items ≡ count_leaves s.tree
  as_many =
      sym (AllZip-long (λ place n. slice_get (first_times (tables_named s.tree)) place ≡ Some n) named.places.items
      (tables_named s.tree) stand) ∙ length-named s.tree

  outline_rows : leaf_rows c.rows.items ≡ count_leaves s.tree
  outline_rows =
      sym (leaf_rows-plain c.rows.items) ∙ ap leaf_rows course.outline ∙ leaf_rows-plain (preorder s.tree)
      ∙ leaf_rows-preorder s.tree

  pub is_renumbered : IsRenumbered (first_times (tables_named s.tree)) s.tree shape
  is_renumbered = renumbered s.tree (first_times (tables_named s.tree)) named.places.items stand

  pub rows_are : rows ≡ preorder shape
  rows_are =
      numbered
      ∙ with_numbers-plain c.rows.items (preorder s.tree) named.places.items course.outline
      (omega (arith, outline_rows, as_many))
      ∙ sym (rows-renamed s.tree named.places.items (omega (arith, as_many)))

  pub tables_are : map prices_of some
      ≡ map (λ n. slice_index_or s.tables n no_prices) (first_times (tables_named s.tree))
  tables_are =
      taken_prices c.tables.items some named.numbers.items taken
      ∙ ap (λ (ps : List Prices). map (λ n. slice_index_or ps n no_prices) named.numbers.items) (sym course.tables)
      ∙ ap (map (λ n. slice_index_or s.tables n no_prices)) numbers_are

  -- so the document prints what is in memory
  pub written_for : (d : Document) → d.cost ≡ c.cost → blocks_of d.plan ≡ blocks_of c.plan → d.shape.items ≡ rows
      → d.tables.items ≡ some → IsWrittenFor s d
  written_for d cost blocks shape_is some_are = record {
    cost = cost ∙ sym course.cost;
    blocks = blocks ∙ sym course.blocks;
    shape = shape;
    renumbered = is_renumbered;
    rows = shape_is ∙ rows_are;
    tables = ap (map prices_of) some_are ∙ tables_are;
  }
