use Rattle.std.proofs.Common.{List, length, refl, sym, subst}
use Rattle.std.specs.List.{All}
use Rattle.vs_types.specs.declared.layer_set.LayerSet.{LayerSet}
use Rattle.vs_instance.specs.Restriction.{permitted_sets}
use Rattle.vs_prices.specs.Table.{Fits}
use Rattle.vs_prices.specs.declared.table.Table.{Table}
use Rattle.vs_rows.specs.declared.document.Shape.{Shape}
use Rattle.vs_resume.specs.Cases.{AreCasesOfRows, AreGoodRows}
use Rattle.vs_resume.proofs.documents.Begun.{begins, good_rows}
use Rattle.vs_resume.proofs.course.Course.of.Goals as goal

pub cases_of-requires : goal.cases_of-requires
cases_of-requires c =
    let p = c.args.instance.now in
    let d = c.args.document in
    record {
      tables = subst (All (Fits p)) (sym c.deref-listed.ensures.value) c.requires.text.fits;
      sets = c.in_ok-sets.ensures.restriction;
      rows = subst (λ (sets : List LayerSet).
          AreGoodRows sets (length c.deref-listed.result.now) c.deref-shapes.result.now)
          (sym c.in_ok-sets.ensures.sets)
          (subst (λ (ts : List Table). AreGoodRows (permitted_sets p) (length ts) c.deref-shapes.result.now)
          (sym c.deref-listed.ensures.value)
          (subst (AreGoodRows (permitted_sets p) (length d.tables.items)) (sym c.deref-shapes.ensures.value)
          (good_rows p d c.requires.text c.requires.holds)));
    }

pub returns : goal.returns
returns c =
    let p = c.args.instance.now in
    let d = c.args.document in
    let cases = c.in_ok-cases.cases in
    begins p d c.requires.text c.requires.holds
    (record { cost = d.cost; plan = d.plan; tables = d.tables; rows = d.shape; cases = cases }) refl refl refl refl
    (subst (λ (sets : List LayerSet). AreCasesOfRows p d.tables.items sets d.shape.items cases.items)
    c.in_ok-sets.ensures.sets
    (subst (λ (ts : List Table). AreCasesOfRows p ts c.in_ok-sets.sets.items d.shape.items cases.items)
    c.deref-listed.ensures.value
    (subst (λ (rs : List Shape). AreCasesOfRows p c.deref-listed.result.now c.in_ok-sets.sets.items rs cases.items)
    c.deref-shapes.ensures.value c.in_ok-cases.ensures)))
