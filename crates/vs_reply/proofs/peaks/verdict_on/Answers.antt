use Rattle.vs_instance.specs.Firsts.{first}
use Rattle.vs_peakcheck.specs.Flaws.{flaws_of}
use Rattle.vs_reply.proofs.owing.NamedPeakFlaws.{first_named}
use Rattle.vs_reply.proofs.owing.PeaksOwed.{first_of_claims, no_told, yes_told}
use Rattle.vs_reply.proofs.peaks.verdict_on.Goals as goal

pub returns-in-Yes : goal.returns-in-Yes
returns-in-Yes c =
    yes_told c.args.instance.now c.args.names.now c.args.claimed.now c.yes.result
    (c.in_ok-check.ensures.yes.0 c.in-Yes.is) (c.in_ok-check.ensures.proves c.in-Yes.is) c.yes.ensures

pub no-requires-clause-layer : goal.no-requires-clause-layer
no-requires-clause-layer c =
    let p = c.args.instance.now in
    let claimed = c.args.claimed.now in
    (first_named p claimed c.requires.claimed.claims.each_layer c.in-No.l c.in-No.flaw
    (first_of_claims (first (flaws_of p claimed)) _ c.in-No.l c.in-No.flaw c.in_ok-check.ensures.verdict c.in-No.is)).0

pub no-requires-clause-flaw : goal.no-requires-clause-flaw
no-requires-clause-flaw c =
    let p = c.args.instance.now in
    let claimed = c.args.claimed.now in
    (first_named p claimed c.requires.claimed.claims.each_layer c.in-No.l c.in-No.flaw
    (first_of_claims (first (flaws_of p claimed)) _ c.in-No.l c.in-No.flaw c.in_ok-check.ensures.verdict c.in-No.is)).1

pub returns-in-No : goal.returns-in-No
returns-in-No c =
    let p = c.args.instance.now in
    let claimed = c.args.claimed.now in
    no_told p c.args.names.now claimed c.in-No.l c.in-No.flaw c.no.result
    (λ holds. let yes = c.in_ok-check.ensures.yes.1 holds in cc (yes, c.in-No.is))
    (first_of_claims (first (flaws_of p claimed)) _ c.in-No.l c.in-No.flaw c.in_ok-check.ensures.verdict c.in-No.is)
    c.no.ensures
