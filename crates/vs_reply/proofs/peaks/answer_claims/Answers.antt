use Rattle.std.proofs.Common.{List, subst, sym}
use Rattle.vs_peakcheck.specs.Claims.{CanBeChecked, PeakText}
use Rattle.vs_peakcheck.specs.PeakRefusals.{IsRefusal}
use Rattle.vs_peakcheck.specs.declared.claimed.Claimed.{Claimed}
use Rattle.vs_reply.proofs.owing.PeaksOwed.{claims_refusal_owed, verdict_owed}
use Rattle.vs_reply.proofs.peaks.answer_claims.Goals as goal

pub verdict_on-requires-clause-claimed : goal.verdict_on-requires-clause-claimed
verdict_on-requires-clause-claimed c =
    subst (CanBeChecked c.args.input.now.instance) (sym c.deref.ensures.value) c.in-Ok.ensures.checked

pub verdict_on-requires-clause-names : goal.verdict_on-requires-clause-names
verdict_on-requires-clause-names c = c.requires.counts

pub returns-in-Ok : goal.returns-in-Ok
returns-in-Ok c = λ bytes stands.
    let input = c.args.input.now in
    verdict_owed bytes input.instance input.names input.before input.rest _ c.verdict_on.result stands
    (subst (λ (claimed : List Claimed). PeakText input.instance input.names input.rest claimed)
    (sym c.deref.ensures.value) c.in-Ok.ensures.found) c.verdict_on.ensures

pub returns-in-Refused : goal.returns-in-Refused
returns-in-Refused c = λ bytes stands.
    let input = c.args.input.now in
    claims_refusal_owed bytes input.instance input.names input.before input.rest c.in-Refused.row c.in-Refused.why
    c.refused.result stands
    (subst (IsRefusal input.instance input.names input.before input.rest) c.in-Refused.is c.in-Err.ensures.refused)
    c.refused.ensures
