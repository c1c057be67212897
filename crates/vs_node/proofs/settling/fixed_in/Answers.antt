use Rattle.std.proofs.Common.{Bool, List, sym, subst}
use Rattle.std.proofs.lemmas.Result.{IfOk-weaker}
use Rattle.vs_circ.specs.Circulations.{IsFixed}
use Rattle.vs_circ.specs.Offers.{AreMust}
use Rattle.vs_node.proofs.sets.OneLayer.{are_must}
use Rattle.vs_node.proofs.settling.fixed_in.Goals as goal

pub fixed-requires : goal.fixed-requires
fixed-requires c =
    let p = c.args.instance.now in
    let l = c.args.l in
    let instance = c.layers.ensures.instance in
    let must = subst (AreMust p l.0) (sym c.mark.ensures)
    (are_must p c.args.sets.now instance c.requires.restriction l.0) in
    record { of_layer = (p, l, instance, c.requires.lawful, must) }

pub returns : goal.returns
returns c =
    let p = c.args.instance.now in
    let l = c.args.l in
    let n = c.args.net.now in
    let instance = c.layers.ensures.instance in
    let must = subst (AreMust p l.0) (sym c.mark.ensures)
    (are_must p c.args.sets.now instance c.requires.restriction l.0) in
    IfOk-weaker c.fixed.result _ _
    (λ f fixed. subst (λ (m : List Bool). IsFixed p l n m f) c.mark.ensures
    (fixed p l instance c.requires.lawful must)) c.fixed.ensures.fixed
