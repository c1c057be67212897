use Rattle.std.proofs.Common.{◌≡◌, ◌↔◌, List, Option, Some, None, refl, sym, ap, ◌∙◌}
use Rattle.std.proofs.lemmas.Result.{IfOk-weaker}
use Rattle.vs_instance.specs.Firsts.{first}
use Rattle.vs_instance.proofs.CallerLemmas.{none_from_first}
use Rattle.vs_types.specs.declared.numbers.LayerNo.{LayerNo}
use Rattle.vs_peakcheck.specs.Flaws.{flaws_of, verdict_of}
use Rattle.vs_peakcheck.specs.declared.flaw.PeakFlaw.{PeakFlaw}
use Rattle.vs_peakcheck.specs.declared.flaw.PeakVerdict.TheVariants.{Yes}
use Rattle.vs_peakcheck.specs.HoldingClaims.{HoldingClaims}
use Rattle.vs_peakcheck.proofs.LayerFlaws.{holds_from_none, none_from_holds}
use Rattle.vs_peakcheck.proofs.ProvenPeaks.{prove_peaks}
use Rattle.vs_peakcheck.proofs.checking.check.Goals as goal

-- yes comes where there is no first flaw
no_first : (o : Option (LayerNo × PeakFlaw)) → verdict_of o ≡ Yes → o ≡ None
no_first None is = refl
no_first (Some flaw) is = cc

pub returns-clause-yes : goal.returns-clause-yes
returns-clause-yes c =
    let p = c.args.instance.now in
    let claimed = c.args.claimed.now in
    IfOk-weaker c.check_layers.result _ (λ v. (v ≡ Yes) ↔ HoldingClaims p claimed)
    (λ v is. (
      (λ yes. holds_from_none p claimed c.requires.claims
          (none_from_first (flaws_of p claimed) (no_first (first (flaws_of p claimed)) (sym is ∙ yes)))),
      (λ holds. is ∙ ap (λ (fs : List (LayerNo × PeakFlaw)). verdict_of (first fs)) (none_from_holds p claimed holds)),
    ))
    c.check_layers.ensures

pub returns-clause-proves : goal.returns-clause-proves
returns-clause-proves c =
    let p = c.args.instance.now in
    let claimed = c.args.claimed.now in
    IfOk-weaker c.check_layers.result _ _
    (λ v is yes. prove_peaks p claimed c.layers-layers.ensures.instance c.requires.claims (is.0 yes))
    (returns-clause-yes c)
