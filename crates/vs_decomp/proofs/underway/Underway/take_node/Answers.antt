use Rattle.std.proofs.Common.{◌≡◌, ℕ, ◌+◌, ◌<◌, ◌≤◌, List, length, get_or, sym, ap, ◌∙◌, subst, arith}
use Rattle.std.proofs.lemmas.List.{take_all}
use Rattle.vs_layer.specs.Graph.{Graph, leaving}
use Rattle.vs_decomp.specs.Stands.{CanTake, HasTakenArc, IsAt, standing}
use Rattle.vs_decomp.proofs.Taking.{goes_on, next_can, next_taken, node_taken, out_at}
use Rattle.vs_decomp.proofs.underway.Underway.take_node.Goals as goal

pub take_arc-requires-clause-onward : goal.take_arc-requires-clause-onward
take_arc-requires-clause-onward c =
    let g = c.args.net.now.graph in
    let v = c.args.v in
    let j = c.loop-k.k-index in
    let same : c.leaving-k-items.result.now ≡ leaving g v =
    c.leaving-k-items.ensures ∙ ap (λ (x : Graph). leaving x v) c.net.ensures.graph in
    let within : j < length (leaving g v) = omega (arith, c.loop-k-test.true, ap length same) in
    subst (λ (xs : List ℕ). get_or xs j 0 + 1 < length g.arcs) (sym same)
    (goes_on c.args.net.now c.requires.net c.args.flow.now.units.items c.requires.circulation v c.requires.onward
    (get_or (leaving g v) j 0) (out_at g v j 0 within))

pub take_arc-requires-clause-can : goal.take_arc-requires-clause-can
take_arc-requires-clause-can c =
    let g = c.args.net.now.graph in
    let v = c.args.v in
    let j = c.loop-k.k-index in
    let units = c.args.flow.now.units.items in
    let now = standing c.loop-k.self.stands.items in
    let same : c.leaving-k-items.result.now ≡ leaving g v =
    c.leaving-k-items.ensures ∙ ap (λ (x : Graph). leaving x v) c.net.ensures.graph in
    let within : j < length (leaving g v) = omega (arith, c.loop-k-test.true, ap length same) in
    let at = c.requires.at in
    subst (λ (xs : List ℕ). CanTake c.args.net.now units (get_or xs j 0) now) (sym same)
    (next_can c.args.net.now c.requires.net units c.requires.circulation v c.requires.onward at.0 j 0 now within
    (c.loop-k.invariant at.0 at.1))

pub loop-k-preserved : goal.loop-k-preserved
loop-k-preserved c = λ layer is.
    let g = c.args.net.now.graph in
    let v = c.args.v in
    let j = c.loop-k.k-index in
    let units = c.args.flow.now.units.items in
    let now = standing c.loop-k.self.stands.items in
    let new = standing c.take_arc.new.self.stands.items in
    let same : c.leaving-k-items.result.now ≡ leaving g v =
    c.leaving-k-items.ensures ∙ ap (λ (x : Graph). leaving x v) c.net.ensures.graph in
    let within : j < length (leaving g v) = omega (arith, c.loop-k-test.true, ap length same) in
    next_taken c.args.net.now c.requires.net units c.requires.circulation v c.requires.onward layer j 0 now new within
    (c.loop-k.invariant layer is)
    (subst (λ (xs : List ℕ). HasTakenArc c.args.net.now units (get_or xs j 0) now new) same c.in_ok-take_arc.ensures)

pub returns : goal.returns
returns c = λ layer is.
    let g = c.args.net.now.graph in
    let v = c.args.v in
    let j = c.loop-k.k-index in
    let units = c.args.flow.now.units.items in
    let now = standing c.loop-k.self.stands.items in
    let same : c.leaving-k-items.result.now ≡ leaving g v =
    c.leaving-k-items.ensures ∙ ap (λ (x : Graph). leaving x v) c.net.ensures.graph in
    let past : length (leaving g v) ≤ j = omega (arith, c.loop-k-test.false, ap length same) in
    node_taken c.args.net.now c.requires.net units c.requires.circulation v c.requires.onward layer now
    (subst (λ (xs : List ℕ). IsAt c.args.net.now layer units v xs now) (take_all j (leaving g v) past)
    (c.loop-k.invariant layer is))
