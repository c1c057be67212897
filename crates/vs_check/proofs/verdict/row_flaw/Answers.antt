use Rattle.std.proofs.Common.{◌≡◌, true, false, sym, ap, ◌∙◌, subst, Some, None}
use Rattle.vs_types.specs.declared.layer_set.LayerSet.{LayerSet}
use Rattle.vs_instance.specs.Restriction.{set_of}
use Rattle.vs_rows.specs.declared.document.Shape.{Shape}
use Rattle.vs_types.specs.Parts.{is_proper_part}
use Rattle.vs_check.specs.Walk.{GoesOver}
use Rattle.vs_check.specs.declared.flaw.Flaw.TheVariants.{BadSplit}
use Rattle.vs_check.proofs.RowFlaws.{bad_split, good_split}
use Rattle.vs_check.proofs.verdict.row_flaw.Goals as goal

pub returns-then-is_proper_part : goal.returns-then-is_proper_part
returns-then-is_proper_part c =
    let p = c.args.instance.now in
    let d = c.args.document.now in
    let old = c.args.walk.now in
    let new = c.enter_left.new.self in
    let trip = c.in-Split.trip in
    let left = c.in-Split.left in
    let good : is_proper_part left (set_of old.sets.items trip.0) ≡ true =
    ap (λ (s : LayerSet). is_proper_part left s) (sym c.layers.ensures) ∙ sym c.is_proper_part.ensures.value
    ∙ c.if-is_proper_part.true in
    subst (λ (row : Shape). GoesOver p d c.args.position row old new None) (sym c.in-Split.is)
    (good_split p d c.args.position trip left old new good c.in_ok-enter_left-in-Split.ensures)

pub returns-else-is_proper_part : goal.returns-else-is_proper_part
returns-else-is_proper_part c =
    let p = c.args.instance.now in
    let d = c.args.document.now in
    let walk = c.args.walk.now in
    let trip = c.in-Split.trip in
    let left = c.in-Split.left in
    let bad : is_proper_part left (set_of walk.sets.items trip.0) ≡ false =
    ap (λ (s : LayerSet). is_proper_part left s) (sym c.layers.ensures) ∙ sym c.is_proper_part.ensures.value
    ∙ c.if-is_proper_part.false in
    subst (λ (row : Shape). GoesOver p d c.args.position row walk walk (Some (BadSplit c.args.position)))
    (sym c.in-Split.is) (bad_split p d c.args.position trip left walk walk bad)
