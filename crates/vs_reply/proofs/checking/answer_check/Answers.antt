use Rattle.std.proofs.Common.{ℕ, length, sym, subst}
use Rattle.vs_instance.specs.Firsts.{first}
use Rattle.vs_check.specs.Flaws.{IsFlawWithin, IsVerdictWithin, flaws_of}
use Rattle.vs_check.proofs.CallerLemmas.{first_of_verdict}
use Rattle.vs_reader.proofs.CallerLemmas.{stands_counts}
use Rattle.vs_reply.proofs.owing.OwedAnswers.{yes_owed, no_owed}
use Rattle.vs_reply.proofs.checking.answer_check.Goals as goal

pub returns-in-Yes : goal.returns-in-Yes
returns-in-Yes c =
    let case = c.in-Ok.case in
    yes_owed c.args.bytes.now case.input.instance case.input.names case.document c.yes.result c.in-Ok.ensures.found
    (c.in_ok-check.ensures.holds.0 c.in-Yes.is) c.yes.ensures

pub no-requires : goal.no-requires
no-requires c =
    let input = c.in-Ok.case.input in
    let text = c.in-Ok.ensures.found in
    let within =
    subst (IsVerdictWithin (length input.instance.layers) (length input.instance.trips)) c.in-No.is
    c.in_ok-check.ensures.of_instance in
    let counts = stands_counts c.args.bytes.now input.instance input.names text.before text.rest text.instance in
    subst (λ (n : ℕ). IsFlawWithin n (length input.names.trips) c.in-No.flaw) (sym counts.layers)
    (subst (λ (n : ℕ). IsFlawWithin (length input.instance.layers) n c.in-No.flaw) (sym counts.trips) within)

pub returns : goal.returns
returns c =
    let case = c.in-Ok.case in
    no_owed c.args.bytes.now case.input.instance case.input.names case.document c.in-No.flaw c.no.result
    c.in-Ok.ensures.found
    (λ holds. let yes = c.in_ok-check.ensures.holds.1 holds in cc (yes, c.in-No.is))
    (first_of_verdict (first (flaws_of case.input.instance case.document)) _ c.in-No.flaw
    c.in_ok-check.ensures.verdict c.in-No.is)
    c.no.ensures
