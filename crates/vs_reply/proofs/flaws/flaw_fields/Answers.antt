use Rattle.std.proofs.Common.{rules, ℤ, List, [], ◌∷◌, ◌++◌, FitsSigned, w64, sym, ap, ◌∙◌}
use Rattle.std.specs.Fmt.{signed_decimal}
use Rattle.std.specs.Prelude.{codes}
use Rattle.std.proofs.lemmas.Int.{to_z-of_z}
use Rattle.std.proofs.lemmas.Result.{IfOk-equal}
use Rattle.vs_check.specs.declared.flaw.Flaw.{Flaw}
use Rattle.vs_reply.specs.FlawRows.{broken_fields, flaw_fields, position_field}
use Rattle.vs_reader.specs.Rows.{Field, more_fields}
use Rattle.vs_rows.proofs.CallerLemmas.{wrote_field, wrote_last}
use Rattle.vs_reply.proofs.written.WrittenFields.{wrote_fields}
use Rattle.vs_reply.proofs.flaws.flaw_fields.Goals as goal

pub returns-in_ok-number-in-CostDiffers : goal.returns-in_ok-number-in-CostDiffers
returns-in_ok-number-in-CostDiffers c =
    let old = c.args.text.now in
    let begun = c.heading.new.text in
    let printed : Field = signed_decimal c.in-CostDiffers.printed in
    let found : Field = signed_decimal c.in-CostDiffers.found in
    let printed_fits : FitsSigned w64 c.in-CostDiffers.printed = search rules in
    let found_fits : FitsSigned w64 c.in-CostDiffers.found = search rules in
    let first = c.in_ok-number-in-CostDiffers.ensures
    ∙ ap (λ (n : ℤ). begun ++ 44 ∷ signed_decimal n) (to_z-of_z w64 c.in-CostDiffers.printed printed_fits) in
    IfOk-equal c.number-in-CostDiffers.result _ _ _ c.number-in-CostDiffers.ensures
    (ap (λ (n : ℤ). c.number.new.self ++ 44 ∷ signed_decimal n) (to_z-of_z w64 c.in-CostDiffers.found found_fits)
    ∙ wrote_last c.number.new.self found
    ∙ wrote_field begun c.number.new.self printed (found ∷ []) first
    ∙ wrote_fields old begun (codes "2" ∷ codes "CostDiffers" ∷ []) (printed ∷ found ∷ [])
    c.in_ok-heading-in-CostDiffers.ensures
    ∙ sym (ap (λ (f : Flaw). old ++ more_fields (flaw_fields c.args.names.now f)) c.in-CostDiffers.is))

pub returns-in_ok-position_field-in-TableBroken : goal.returns-in_ok-position_field-in-TableBroken
returns-in_ok-position_field-in-TableBroken c =
    let old = c.args.text.now in
    let begun = c.heading-in-TableBroken.new.text in
    let broken : List Field = broken_fields c.args.names.now c.in-TableBroken.at in
    let table : Field = position_field c.in-TableBroken.t in
    IfOk-equal c.broken_fields.result _ _ _ c.broken_fields.ensures
    (wrote_field begun c.position_field.new.text table broken c.in_ok-position_field-in-TableBroken.ensures
    ∙ wrote_fields old begun (codes "3" ∷ codes "TableBroken" ∷ []) (table ∷ broken)
    c.in_ok-heading-in-TableBroken.ensures
    ∙ sym (ap (λ (f : Flaw). old ++ more_fields (flaw_fields c.args.names.now f)) c.in-TableBroken.is))
