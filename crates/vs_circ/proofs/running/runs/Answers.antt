use Rattle.std.proofs.Common.{◌≡◌, ◌∙◌, ◌<◌, ℕ, List, length, get_or, refl, sym, subst}
use Rattle.std.proofs.lemmas.List.{get_or_default}
use Rattle.vs_match.specs.LayerGraph.{LayerGraph}
use Rattle.vs_match.specs.LayerNets.{net_at, no_net}
use Rattle.vs_match.specs.LawfulNets.{IsLawful}
use Rattle.vs_circ.specs.shipping.Ready.{CanRun}
use Rattle.vs_circ.proofs.shipping.Readying.{kept-there, ready-set}
use Rattle.vs_circ.proofs.running.runs.Goals as goal

same_net : (nets : List LayerGraph) (l : ℕ) (n : LayerGraph) → l < length nets → n ≡ get_or nets l n → n ≡ net_at nets l
same_net nets l n inside at = at ∙ get_or_default nets l n no_net inside

pub run-requires-clause-of_layer : goal.run-requires-clause-of_layer
run-requires-clause-of_layer c =
    let layer = c.requires.of_layer in
    let net =
    same_net c.args.nets.now c.args.l.0 c.index-nets-place.result c.requires.layer c.index-nets-place.is in
    (layer.0, c.args.l, layer.1, subst (IsLawful layer.0 c.args.l.0) (sym net) layer.2, layer.3)

pub run-requires-clause-kept : goal.run-requires-clause-kept
run-requires-clause-kept c =
    let Run : LayerGraph → Type 0 = λ n. CanRun n c.index_mut.result.now in
    let net =
    same_net c.args.nets.now c.args.l.0 c.index-nets-place.result c.requires.layer c.index-nets-place.is in
    subst Run (sym net)
    (kept-there c.args.nets.now c.args.work.now c.args.l.0 c.index_mut.result.now c.requires.ready c.requires.layer
    c.index_mut.ensures.value)

pub returns-clause-ready : goal.returns-clause-ready
returns-clause-ready c =
    let Run : LayerGraph → Type 0 = λ n. CanRun n c.run.new.kept in
    ready-set c.args.nets.now c.args.work.now _ c.args.l.0 c.run.new.kept refl c.requires.layer
    (subst Run (same_net c.args.nets.now c.args.l.0 c.index-nets-place.result c.requires.layer c.index-nets-place.is)
    c.run.ensures.kept)
    c.requires.ready
