use Rattle.std.proofs.Common.{◌≡◌, ℕ, sym, ap, ◌∙◌, Option}
use Rattle.std.specs.Prelude.{option_map}
use Rattle.vs_instance.specs.Firsts.{first}
use Rattle.vs_instance.specs.Problem.{Problem}
use Rattle.vs_instance.proofs.CallerLemmas.{first_from-here, first_from-more}
use Rattle.vs_peakcheck.specs.Counting.{counting}
use Rattle.vs_peakcheck.specs.declared.claimed.Claimed.{Claimed}
use Rattle.vs_peakcheck.specs.declared.flaw.PeakFlaw.{PeakFlaw}
use Rattle.vs_peakcheck.specs.Flaws.{flaws_in, layer_flaws, verdict_of}
use Rattle.vs_peakcheck.proofs.LayerFlaws.{at_layer, first-map}
use Rattle.vs_peakcheck.proofs.checking.check_layers.Goals as goal

-- the first flaw of a layer, by the problem that counts its vehicles
layer_first : (p q : Problem) (l : ℕ) (x y : Claimed) (o : Option PeakFlaw) → q ≡ counting p l → x ≡ y
    → o ≡ first (flaws_in q x) → first (layer_flaws p l y) ≡ option_map (at_layer p l) o
layer_first p q l x y o q_is x_is o_is =
    first-map (at_layer p l) (flaws_in (counting p l) y)
    ∙ ap (option_map (at_layer p l))
    (sym (o_is ∙ ap (λ (z : Claimed). first (flaws_in q z)) x_is ∙ ap (λ (r : Problem). first (flaws_in r y)) q_is))

pub returns-in-Some : goal.returns-in-Some
returns-in-Some c =
    let p = c.args.instance.now in
    let l = c.loop-l.l in
    let here = layer_first p c.in_ok-counted.counted l c.index-claimed-l.result _ c.in_ok-found.found
    c.in_ok-counted.ensures c.index-claimed-l.is c.in_ok-found.ensures
    ∙ ap (option_map (at_layer p l)) c.in-Some.is in
    ap verdict_of
    (sym (first_from-here (layer_flaws p) c.args.claimed.now l c.index-claimed-l.result (at_layer p l c.in-Some.flaw)
    c.loop-l-test.true here)
    ∙ c.loop-l.invariant)

pub loop-l-preserved : goal.loop-l-preserved
loop-l-preserved c =
    let p = c.args.instance.now in
    let l = c.loop-l.l in
    let here = layer_first p c.in_ok-counted.counted l c.index-claimed-l.result _ c.in_ok-found.found
    c.in_ok-counted.ensures c.index-claimed-l.is c.in_ok-found.ensures
    ∙ ap (option_map (at_layer p l)) c.in_default.is in
    first_from-more (layer_flaws p) c.args.claimed.now l c.index-claimed-l.result c.loop-l-test.true here
    ∙ c.loop-l.invariant
