-- What the leaves of a document that is written are worth.
use Rattle.std.proofs.Common.{◌≡◌, ℕ, zero, suc, List, [], ◌∷◌, ◌++◌, map, refl, sym, ap, ◌∙◌, subst, arith, inl, inr, Some, slice_get, slice_index_or}
use Rattle.std.specs.Prelude.{Contains}
use Rattle.std.specs.List.{All}
use Rattle.std.proofs.lemmas.Int.{ints}
use Rattle.std.proofs.lemmas.List.{map-append}
use Rattle.std.proofs.lemmas.List.Elements.{All-cons, All-head, All-nil, All-tail}
use Rattle.std.proofs.lemmas.Option.{slice_get-get_or}
use Rattle.vs_types.specs.declared.layer_set.LayerSet.{LayerSet}
use Rattle.vs_types.specs.declared.numbers.TripNo.{TripNo}
use Rattle.vs_instance.specs.Instance.{IsInstance}
use Rattle.vs_instance.specs.Problem.{Problem}
use Rattle.vs_prices.specs.Bounds.{IsNoLess}
use Rattle.vs_prices.specs.Table.{Fits, HoldingTable}
use Rattle.vs_prices.specs.Worth.{IsWorth}
use Rattle.vs_prices.specs.declared.bound.Bound.{Bound}
use Rattle.vs_prices.specs.declared.bound.Bound.TheVariants.{AtLeast, NoPlan}
use Rattle.vs_prices.specs.declared.table.Table.{Table}
use Rattle.vs_prices.specs.Tree.{Leaf, LeafPlace, Split, Tree, leaves, right_of, with_set}
use Rattle.vs_rows.specs.DocumentRows.{IsWithin}
use Rattle.vs_rows.specs.declared.document.Document.{Document}
use Rattle.vs_rows.specs.declared.limits.TheConstants.{MAX_BOUND}
use Rattle.vs_rows.proofs.CallerLemmas.{all_at}
use Rattle.vs_check.specs.HoldingDocument.{IsStrongLeaf}
use Rattle.vs_tree.specs.Prices.{AreWorth, no_prices, prices_of}
use Rattle.vs_tree.specs.Report.{bound_of}
use Rattle.vs_tree.proofs.CallerLemmas.{worth_of_table}
use Rattle.vs_cert.specs.StateDocument.{IsRenumbered}
use Rattle.vs_cert.proofs.CallerLemmas.{worth_below, AreNoLess, IsOneOf, worths-append, reaches}
use Rattle.vs_cert.specs.Answers.{AreWorths}
use Rattle.vs_resume.specs.Cases.{AreCasesOf, IsCaseOf}
use Rattle.vs_resume.specs.Order.{worths_in}
use Rattle.vs_resume.specs.declared.cases.Case.{Case}
use Rattle.vs_resume.proofs.documents.LowWorths.{IsNotTooLow}
use Rattle.vs_resume.proofs.documents.WrittenTables.{IsLawful, table_at}
use Rattle.vs_resume.proofs.trees.Zips.{zip-cut}

-- the leaves are worth what they were, where they name their tables by the places of these numbers
module _ (p : Problem) (d : Document) (known : List Table) (numbers : List ℕ)
    (same : map prices_of d.tables.items ≡ map (λ n. slice_index_or (map prices_of known) n no_prices) numbers) where
  leaf_worth : (sets : List LayerSet) (number place : ℕ) (found : Case) → slice_get numbers place ≡ Some number
      → IsCaseOf p known (record { sets = sets; table = number }) found
      → AreWorths p d (record { sets = sets; table = place } ∷ []) (found.worth ∷ [])
  leaf_worth sets number place found at case =
      let written = table_at known d.tables.items numbers same place number case.table at case.named in
      let worth : AreWorth p sets (prices_of case.table) found.worth =
      record { table = case.table; listed = refl; worth = case.worth } in (
        written.table,
        written.stands,
        worth_of_table p sets (prices_of case.table) found.worth written.table written.prices worth,
        tt,
      )

  pub worths_written : (t u : Tree) (sets : List LayerSet) (cases : List Case) → IsRenumbered numbers t u
      → AreCasesOf p known (leaves sets t) cases → AreWorths p d (leaves sets u) (worths_in cases)
  worths_written (Leaf number) (Leaf place) sets [] same are = absurd are
  worths_written (Leaf number) (Leaf place) sets (found ∷ []) same are =
      leaf_worth sets number place found same are.0
  worths_written (Leaf number) (Leaf place) sets (found ∷ other ∷ cases) same are = absurd are.1
  worths_written (Leaf number) (Split also part first second) sets cases same are = absurd same
  worths_written (Split trip left lower upper) (Leaf place) sets cases same are = absurd same
  worths_written (Split trip left lower upper) (Split also part first second) sets cases same are =
      let Are : TripNo → LayerSet → Type 0 =
      λ i set. AreWorths p d
      (leaves (with_set sets i set) first ++ leaves (with_set sets i (right_of sets i set)) second)
      (worths_in cases) in
      let on_left = leaves (with_set sets trip left) in
      let on_right = leaves (with_set sets trip (right_of sets trip left)) in
      let cut = zip-cut (IsCaseOf p known) (on_left lower) (on_right upper) cases are in
      let worths_are : worths_in cut.first ++ worths_in cut.second ≡ worths_in cases =
      sym (map-append (λ (found : Case). found.worth) cut.first cut.second) ∙ ap worths_in (sym cut.both) in
      let both = worths-append p d (on_left first) (on_right second) (worths_in cut.first) (worths_in cut.second)
      (worths_written lower first (with_set sets trip left) cut.first same.2 cut.beside_first)
      (worths_written upper second (with_set sets trip (right_of sets trip left)) cut.second same.3
      cut.beside_second) in
      subst (λ (i : TripNo). Are i part) (sym same.0)
      (subst (λ (set : LayerSet). Are trip set) (sym same.1)
      (subst (AreWorths p d (on_left first ++ on_right second)) worths_are both))

-- so leaves that are worth no less than the bound are strong
pub strong_leaves : (p : Problem) (d : Document) (places : List LeafPlace) (worths : List Bound)
    → AreWorths p d places worths → All (λ worth. IsNoLess worth (bound_of d.bound)) worths
    → All (IsStrongLeaf p d.tables.items d.bound) places
strong_leaves p d [] [] are no_less = All-nil (IsStrongLeaf p d.tables.items d.bound)
strong_leaves p d [] (w ∷ worths) are no_less = absurd are
strong_leaves p d (leaf ∷ places) [] are no_less = absurd are
strong_leaves p d (leaf ∷ places) (w ∷ worths) are no_less =
    let Low : Bound → Type 0 = λ worth. IsNoLess worth (bound_of d.bound) in
    All-cons (IsStrongLeaf p d.tables.items d.bound) leaf places
    (record {
      table = are.0;
      table_is = are.1;
      reaches = (w, are.2, reaches w d.bound (All-head Low w worths no_less));
    })
    (strong_leaves p d places worths are.3 (All-tail Low w worths no_less))

-- a worth that a document can print as a bound
abbrev pub IsPrintable : Bound → Type 0
IsPrintable NoPlan = Unit {0}
IsPrintable (AtLeast n) = IsWithin MAX_BOUND n

printable : (p : Problem) → IsInstance p → (table : Table) → Fits p table → HoldingTable p table
    → (sets : List LayerSet) (worth : Bound) → IsWorth p sets table worth → IsNotTooLow worth → IsPrintable worth
printable p is table fits holds sets NoPlan worth low = tt
printable p is table fits holds sets (AtLeast n) worth low =
    let high = worth_below p is table fits holds sets n worth in
    (omega (arith, ints, low), omega (arith, ints, high))

-- tables that hold are worth no others
pub printable_worths : (p : Problem) → IsInstance p → (tables : List Table) → All (IsLawful p) tables
    → (places : List LeafPlace) (cases : List Case) → AreCasesOf p tables places cases
    → All IsNotTooLow (worths_in cases) → All IsPrintable (worths_in cases)
printable_worths p is tables lawful [] [] are low = All-nil IsPrintable
printable_worths p is tables lawful [] (found ∷ cases) are low = absurd are
printable_worths p is tables lawful (leaf ∷ places) [] are low = absurd are
printable_worths p is tables lawful (leaf ∷ places) (found ∷ cases) are low =
    let here = are.0 in
    let table = all_at (IsLawful p) tables leaf.table here.table lawful here.named in
    All-cons IsPrintable found.worth (worths_in cases)
    (printable p is here.table table.0 table.1 leaf.sets found.worth here.worth
    (All-head IsNotTooLow found.worth (worths_in cases) low))
    (printable_worths p is tables lawful places cases are.1 (All-tail IsNotTooLow found.worth (worths_in cases) low))

-- one by one
pub each_no_less : (least : Bound) (worths : List Bound) → All (λ worth. IsNoLess worth least) worths
    → AreNoLess least worths
each_no_less least [] all = tt
each_no_less least (w ∷ worths) all =
    let Low : Bound → Type 0 = λ worth. IsNoLess worth least in
    (All-head Low w worths all, each_no_less least worths (All-tail Low w worths all))

-- one that stands among some is one of them
pub one_of : (least : Bound) (worths : List Bound) → Contains worths least → IsOneOf least worths
one_of least worths has = by_place worths has.0 (slice_get_there worths has)
  where
    slice_get_there : (some : List Bound) (at : Contains some least) → slice_get some at.0 ≡ Some least
    slice_get_there some at = slice_get-get_or some at.0 least at.1 ∙ ap Some at.2

    by_place : (some : List Bound) (k : ℕ) → slice_get some k ≡ Some least → IsOneOf least some
    by_place [] k at = absurd cc
    by_place (w ∷ some) zero at =
        let same : w ≡ least = cc in
        inl (sym same)
    by_place (w ∷ some) (suc k) at = inr (by_place some k at)
