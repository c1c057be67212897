-- No leaf is worth less than what a document can print, from the document with which turns begin to the last turn.
use Rattle.std.proofs.Common.{◌≡◌, ℕ, List, [], ◌∷◌, map, refl, sym, ap, ◌∙◌, subst, arith, Option, Some, None, option_map, ℤ, neg_ℤ}
use Rattle.std.specs.Prelude.{IfSome}
use Rattle.std.specs.List.{All}
use Rattle.std.proofs.lemmas.Int.{ints}
use Rattle.std.proofs.lemmas.List.Elements.{All-cons, All-head, All-nil, All-tail}
use Rattle.std.proofs.lemmas.Option.{slice_get-map}
use Rattle.vs_instance.specs.Problem.{Problem}
use Rattle.vs_instance.specs.Restriction.{permitted_sets}
use Rattle.vs_prices.specs.Bounds.{IsNoLess}
use Rattle.vs_prices.specs.Worth.{Reaches}
use Rattle.vs_prices.specs.declared.bound.Bound.{Bound}
use Rattle.vs_prices.specs.declared.bound.Bound.TheVariants.{AtLeast, NoPlan}
use Rattle.vs_prices.specs.declared.table.Table.{Table}
use Rattle.vs_prices.specs.Tree.{LeafPlace, Tree, leaves}
use Rattle.vs_rows.specs.DocumentRows.{IsWithin}
use Rattle.vs_rows.specs.DocumentText.{HasText}
use Rattle.vs_rows.specs.declared.document.Document.{Document}
use Rattle.vs_rows.specs.declared.limits.TheConstants.{MAX_BOUND}
use Rattle.vs_rows.proofs.CallerLemmas.{tree_once}
use Rattle.vs_check.specs.HoldingDocument.{HoldingDocument, IsStrongLeaf}
use Rattle.vs_tree.specs.Prices.{Prices, prices_of}
use Rattle.vs_resume.specs.declared.course.Course.{Course}
use Rattle.vs_resume.specs.Order.{worths_in}
use Rattle.vs_resume.specs.Standing.{AreNamedWorths, leaves_of}
use Rattle.vs_resume.proofs.documents.OnCourse.{IsOnCourse}
use Rattle.vs_resume.proofs.documents.TurnCounts.{turns_counted}
use Rattle.vs_resume.proofs.worths.NamedWorths.{named-once}
use Rattle.vs_resume.proofs.worths.Settled.{named_worths}

-- a worth that a document can print, or that is above all those
abbrev pub IsNotTooLow : Bound → Type 0
IsNotTooLow worth = IsNoLess worth (AtLeast (neg_ℤ MAX_BOUND))

reached_low : (worth : Bound) (bound : Option ℤ) → IfSome bound (IsWithin MAX_BOUND) → Reaches worth bound
    → IsNotTooLow worth
reached_low NoPlan bound within reaches = tt
reached_low (AtLeast n) None within reaches = absurd reaches
reached_low (AtLeast n) (Some b) within reaches = omega (arith, ints, within.0, reaches)

-- what some leaves are worth by the tables that they name
record HaveLowWorths (p : Problem) (tables : List Prices) (places : List LeafPlace) : Type 0 where
  worths : List Bound
  are_worths : AreNamedWorths p tables places worths
  each : All IsNotTooLow worths

strong_worths : (p : Problem) (tables : List Table) (bound : Option ℤ) → IfSome bound (IsWithin MAX_BOUND)
    → (places : List LeafPlace) → All (IsStrongLeaf p tables bound) places
    → HaveLowWorths p (map prices_of tables) places
strong_worths p tables bound within [] strong = record { worths = []; are_worths = tt; each = All-nil IsNotTooLow }
strong_worths p tables bound within (leaf ∷ places) strong =
    let here = All-head (IsStrongLeaf p tables bound) leaf places strong in
    let rest = strong_worths p tables bound within places (All-tail (IsStrongLeaf p tables bound) leaf places strong) in
    let worth : Bound = here.reaches.0 in
    record {
      worths = worth ∷ rest.worths;
      are_worths = (
        (
          prices_of here.table,
          slice_get-map prices_of tables leaf.table ∙ ap (λ (o : Option Table). option_map prices_of o) here.table_is,
          record { table = here.table; listed = refl; worth = here.reaches.1 },
        ),
        rest.are_worths,
      );
      each = All-cons IsNotTooLow worth rest.worths (reached_low worth bound within here.reaches.2) rest.each;
    }

-- so in what is in memory after turns
pub low_worths : (p : Problem) (budget : ℕ) (d : Document) (c : Course) (left : ℕ) → HasText p d → HoldingDocument p d
    → IsOnCourse p budget d c left → All IsNotTooLow (worths_in c.cases.items)
low_worths p budget d c left text holds on =
    let same : holds.tree.tree ≡ on.first.tree =
    tree_once holds.tree.tree on.first.tree (sym holds.tree.shape_is ∙ on.printed.rows) in
    let strong = strong_worths p d.tables.items d.bound text.bound (leaves (permitted_sets p) holds.tree.tree)
    holds.tree.strong.leaves in
    let first : AreNamedWorths p on.first.tables (leaves_of p on.first) strong.worths =
    subst (λ (tables : List Prices). AreNamedWorths p tables (leaves_of p on.first) strong.worths)
    (sym on.printed.tables)
    (subst (λ (tree : Tree). AreNamedWorths p (map prices_of d.tables.items) (leaves (permitted_sets p) tree)
    strong.worths) same strong.are_worths) in
    let counted = turns_counted p budget on.first on.last on.turns on.are_turns strong.worths first in
    let last : AreNamedWorths p on.last.tables (leaves_of p on.last) (worths_in c.cases.items) =
    subst (λ (tables : List Prices). AreNamedWorths p tables (leaves_of p on.last) (worths_in c.cases.items))
    (sym on.course.tables)
    (named_worths p c.tables.items (leaves_of p on.last) c.cases.items on.course.cases) in
    subst (All IsNotTooLow)
    (named-once p on.last.tables (leaves_of p on.last) counted.now (worths_in c.cases.items) counted.are_worths last)
    (counted.low (AtLeast (neg_ℤ MAX_BOUND)) strong.each)
