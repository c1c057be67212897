use Rattle.std.proofs.Common.{◌≡◌, ℕ, ◌<◌, List, length, refl, sym, ap, ◌∙◌, subst, arith}
use Rattle.std.specs.List.{All}
use Rattle.std.proofs.lemmas.List.{with_items_is}
use Rattle.std.proofs.lemmas.List.Elements.{All-map}
use Rattle.vs_prices.specs.declared.table.Table.{Table}
use Rattle.vs_rows.specs.declared.document.Shape.{Shape}
use Rattle.vs_tree.specs.Report.{bound_of}
use Rattle.vs_resume.specs.declared.cases.Case.{Case}
use Rattle.vs_resume.specs.Order.{IsLeastWith, worths_in}
use Rattle.vs_resume.specs.Outlines.{with_numbers}
use Rattle.vs_resume.specs.Writing.{AreFirstNamed, AreTaken, IsOnce}
use Rattle.vs_resume.proofs.documents.FirstTimes.{first_times_once}
use Rattle.vs_resume.proofs.documents.Naming.{written_for}
use Rattle.vs_resume.proofs.worths.Settled.{tables_in}
use Rattle.vs_resume.proofs.writing.document_of.Goals as goal
use Rattle.vs_cert.proofs.CallerLemmas.{first_times-All}

pub named_by-requires : goal.named_by-requires
named_by-requires c =
    let course = c.args.course in
    let size : c.len.result ≡ length course.tables.items = omega (arith, c.len.ensures, course.tables.ok.0) in
    subst (All (λ (found : Case). found.table < c.len.result)) (sym c.deref-leaves.ensures.value)
    (subst (λ (n : ℕ). All (λ (found : Case). found.table < n) course.cases.items) (sym size) c.requires.named)

pub taken-requires : goal.taken-requires
taken-requires c =
    let course = c.args.course in
    let named = c.in_ok-named.named in
    let Within : ℕ → Type 0 = λ n. n < length course.tables.items in
    let are = subst (λ (cases : List Case). AreFirstNamed (tables_in cases) named) c.deref-leaves.ensures.value
    c.in_ok-named.ensures in
    let inside = first_times-All Within (tables_in course.cases.items)
    (All-map Within (λ (found : Case). found.table) course.cases.items c.requires.named) in
    let numbers = c.deref-numbers.ensures.value ∙ are.numbers in
    record {
      inside = subst (λ (ts : List Table). All (λ (n : ℕ). n < length ts) c.deref-numbers.result.now)
          (sym c.deref_mut-all.ensures.value) (subst (All Within) (sym numbers) inside);
      once = subst IsOnce (sym numbers) (first_times_once (tables_in course.cases.items));
    }

pub returns : goal.returns
returns c =
    let course = c.args.course in
    let named = c.in_ok-named.named in
    let rows = c.number_leaves.new.rows in
    let tables = c.in_ok-tables.tables in
    let are = subst (λ (cases : List Case). AreFirstNamed (tables_in cases) named) c.deref-leaves.ensures.value
    c.in_ok-named.ensures in
    let numbered = c.number_leaves.ensures
    ∙ ap (λ (rs : List Shape). with_numbers rs c.deref-places.result.now) c.deref_mut.ensures.value
    ∙ ap (with_numbers course.rows.items) c.deref-places.ensures.value in
    let taken = subst (λ (ts : List Table). AreTaken ts named.numbers.items tables.items) c.deref_mut-all.ensures.value
    (subst (λ (ns : List ℕ). AreTaken c.deref_mut-all.result.now ns tables.items) c.deref-numbers.ensures.value
    c.in_ok-tables.ensures) in
    let kept = c.number_leaves.auto.rows in
    let size : length rows ≡ course.rows.len =
    omega (arith, kept, ap length c.deref_mut.ensures.value, course.rows.ok.0) in
    record {
      written = λ p s is. written_for p course s is named are rows numbered tables.items taken _ refl refl
          (with_items_is course.rows rows size) refl;
      bound = subst (λ (cases : List Case).
          IsLeastWith course.cost (worths_in cases) (bound_of c.bound_with-bound.result))
          c.deref-leaves.ensures.value c.bound_with-bound.ensures;
      claim = c.claim_found.ensures;
      nodes = c.from.ensures;
    }
