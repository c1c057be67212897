use Rattle.std.proofs.Common.{◌∙◌, ℤ, List, get_or, set, sym, subst, ap}
use Rattle.vs_layer.specs.declared.arc.Arc.{Arc}
use Rattle.vs_ship.specs.Leaving.{IsLeftBy, passed_along}
use Rattle.vs_circ.specs.shipping.Refitted.{IsMovedOnce, reversed}
use Rattle.vs_circ.proofs.shipping.Changing.{changed-left, changed-moved}
use Rattle.vs_circ.proofs.refitting.set_units.Goals as goal

pub returns-clause-left : goal.returns-clause-left
returns-clause-left c =
    let g = c.args.net.now in
    let k = c.args.k in
    let n = c.args.n in
    let units = c.args.units.now in
    let before = get_or units k 0 in
    let arc = c.arc-arc.ensures in
    let there =
    c.pass_back.ensures
    ∙ ap (λ (xs : List ℤ). passed_along xs (reversed c.arc-arc.result) before)
    (c.pass.ensures ∙ ap (λ (a : Arc). passed_along c.args.surplus.now a n) arc) in
    let Left : List ℤ → Type 0 = IsLeftBy g (set units k n) in
    subst Left (sym there)
    (changed-left g c.requires.net units c.args.surplus.now k n c.requires.arc c.requires.each_arc c.requires.left
    (reversed c.arc-arc.result) (ap (λ (a : Arc). a.to) arc) (ap (λ (a : Arc). a.from) arc))

pub returns-clause-moved : goal.returns-clause-moved
returns-clause-moved c =
    let g = c.args.net.now in
    let k = c.args.k in
    let n = c.args.n in
    let units = c.args.units.now in
    let before = get_or units k 0 in
    let arc = c.arc-arc.ensures in
    let there =
    c.pass_back.ensures
    ∙ ap (λ (xs : List ℤ). passed_along xs (reversed c.arc-arc.result) before)
    (c.pass.ensures ∙ ap (λ (a : Arc). passed_along c.args.surplus.now a n) arc) in
    let Moved : List ℤ → Type 0 = IsMovedOnce c.args.surplus.now in
    subst Moved (sym there)
    (changed-moved g c.requires.net units c.args.surplus.now k n c.requires.arc c.requires.each_arc c.requires.left
    (reversed c.arc-arc.result) (ap (λ (a : Arc). a.to) arc) (ap (λ (a : Arc). a.from) arc)
    c.requires.carries c.requires.one)
