use Rattle.std.proofs.Common.{◌<◌, ◌++◌, List, [], ◌∷◌, length, map, take, get_or, arith, sym, ap, ◌∙◌}
use Rattle.std.proofs.lemmas.List.{map_push, take_more, take_all}
use Rattle.vs_instance.specs.declared.layer.Layer.{Layer}
use Rattle.vs_instance.specs.Unrated.{unrated}
use Rattle.vs_instance.specs.Ways.{no_layer}
use Rattle.vs_instance.proofs.unrated.unrated_layers.Goals as goal

pub loop-l-preserved : goal.loop-l-preserved
loop-l-preserved c =
    let layers : List Layer = c.args.layers.now in
    let l = c.loop-l.l in
    let inside : l < length layers = omega (arith, c.loop-l-test.true) in
    c.in_ok-push.ensures.items ∙ ap (λ (free : List Layer). free ++ c.unrated.result ∷ []) c.loop-l.invariant
    ∙ ap (λ (layer : Layer). map unrated (take l layers) ++ layer ∷ []) c.unrated.ensures
    ∙ sym (ap (map unrated) (take_more layers l no_layer inside)
    ∙ map_push unrated (take l layers) (get_or layers l no_layer))

pub returns : goal.returns
returns c = c.loop-l.invariant ∙ ap (map unrated) (take_all c.loop-l.l c.args.layers.now (omega arith))
