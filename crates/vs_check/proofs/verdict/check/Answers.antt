use Rattle.std.proofs.Common.{Some, refl, sym, ap, ◌∙◌}
use Rattle.std.proofs.lemmas.Option.{none-some}
use Rattle.vs_instance.specs.Firsts.{first}
use Rattle.vs_instance.proofs.CallerLemmas.{none_from_first}
use Rattle.vs_document.proofs.CallerLemmas.{suits-read}
use Rattle.vs_check.specs.Flaws.{flaws_of}
use Rattle.vs_check.proofs.Claims.{prove_their_claims}
use Rattle.vs_check.proofs.Flawless.{holds_from_none, none_from_holds}
use Rattle.vs_check.proofs.NamedFlaws.{verdict_named}
use Rattle.vs_check.proofs.verdict.check.Goals as goal

pub returns-in-None-clause-holds : goal.returns-in-None-clause-holds
returns-in-None-clause-holds c =
    let p = c.args.instance.now in
    let d = c.args.document.now in (
      λ _. holds_from_none p c.trips.ensures.instance d (suits-read p d c.requires)
          (none_from_first (flaws_of p d) (sym c.in_ok-first_flaw.ensures ∙ c.in-None.is)),
      λ _. refl,
    )

pub returns-in-None-clause-proves : goal.returns-in-None-clause-proves
returns-in-None-clause-proves c = λ yes.
    prove_their_claims c.args.instance.now c.args.document.now c.trips.ensures.instance
    ((returns-in-None-clause-holds c).0 yes)

pub returns-in-Some-clause-holds : goal.returns-in-Some-clause-holds
returns-in-Some-clause-holds c =
    let p = c.args.instance.now in
    let d = c.args.document.now in (
      λ yes. cc,
      λ holds. absurd
          (none-some c.in-Some.flaw
          (sym (ap first (none_from_holds p c.trips.ensures.instance d holds)) ∙ sym c.in_ok-first_flaw.ensures
          ∙ c.in-Some.is)),
    )

pub returns-in-Some-clause-of_instance : goal.returns-in-Some-clause-of_instance
returns-in-Some-clause-of_instance c =
    verdict_named c.args.instance.now c.args.document.now (Some c.in-Some.flaw)
    (sym c.in-Some.is ∙ c.in_ok-first_flaw.ensures)
