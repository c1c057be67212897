use Rattle.std.proofs.Common.{rules, ℤ, [], ◌∷◌, ◌++◌, FitsSigned, sym, ap, ◌∙◌}
use Rattle.std.specs.Int.{w128}
use Rattle.std.specs.Fmt.{signed_decimal}
use Rattle.std.specs.Prelude.{codes}
use Rattle.std.proofs.lemmas.Int.{to_z-of_z}
use Rattle.std.proofs.lemmas.Result.{IfOk-equal}
use Rattle.vs_peakcheck.specs.PeakRows.{count_field}
use Rattle.vs_peakcheck.specs.declared.flaw.PeakFlaw.{PeakFlaw}
use Rattle.vs_prices.specs.declared.broken_at.BrokenAt.{BrokenAt}
use Rattle.vs_reader.specs.Rows.{Field, more_fields}
use Rattle.vs_reply.specs.FlawRows.{broken_fields, layer_field}
use Rattle.vs_reply.specs.PeakFlawRows.{own_break, peak_flaw_fields}
use Rattle.vs_rows.proofs.CallerLemmas.{wrote_field, wrote_last}
use Rattle.vs_reply.proofs.written.WrittenFields.{wrote_fields}
use Rattle.vs_reply.proofs.peak_flaws.peak_flaw_fields.Goals as goal

pub returns-in_ok-peak_heading-in-TableBroken : goal.returns-in_ok-peak_heading-in-TableBroken
returns-in_ok-peak_heading-in-TableBroken c =
    let old = c.args.text.now in
    let names = c.args.names.now in
    let begun = c.peak_heading-in-TableBroken.new.text in
    let own = own_break c.args.l c.args.trips.now c.in-TableBroken.at in
    IfOk-equal c.broken_fields.result _ _ _ c.broken_fields.ensures
    (ap (λ (at : BrokenAt). begun ++ more_fields (broken_fields names at)) c.own_break.ensures.is
    ∙ wrote_fields old begun (codes "10" ∷ codes "TableBroken" ∷ layer_field names c.args.l ∷ [])
    (broken_fields names own) c.in_ok-peak_heading-in-TableBroken.ensures
    ∙ sym (ap (λ (f : PeakFlaw). old ++ more_fields (peak_flaw_fields names c.args.l c.args.trips.now f))
    c.in-TableBroken.is))

pub returns-in_ok-number-in-TooWeak : goal.returns-in_ok-number-in-TooWeak
returns-in_ok-number-in-TooWeak c =
    let old = c.args.text.now in
    let names = c.args.names.now in
    let begun = c.peak_heading-in-TooWeak.new.text in
    let wrote = c.number-in-TooWeak.new.self in
    let worth : Field = signed_decimal c.in-TooWeak.worth in
    let count : Field = count_field c.in-TooWeak.count in
    let fits : FitsSigned w128 c.in-TooWeak.worth = search rules in
    let first = c.in_ok-number-in-TooWeak.ensures
    ∙ ap (λ (n : ℤ). begun ++ 44 ∷ signed_decimal n) (to_z-of_z w128 c.in-TooWeak.worth fits) in
    IfOk-equal c.count_field.result _ _ _ c.count_field.ensures
    (wrote_last wrote count
    ∙ wrote_field begun wrote worth (count ∷ []) first
    ∙ wrote_fields old begun (codes "11" ∷ codes "TooWeak" ∷ layer_field names c.args.l ∷ []) (worth ∷ count ∷ [])
    c.in_ok-peak_heading-in-TooWeak.ensures
    ∙ sym (ap (λ (f : PeakFlaw). old ++ more_fields (peak_flaw_fields names c.args.l c.args.trips.now f))
    c.in-TooWeak.is))
