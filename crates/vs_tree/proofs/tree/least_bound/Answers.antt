use Rattle.std.proofs.Common.{◌∙◌, ap, sym, arith, ◌<◌, length}
use Rattle.std.proofs.lemmas.List.{get_or_default}
use Rattle.vs_prices.specs.declared.bound.Bound.TheVariants.{NoPlan}
use Rattle.vs_tree.specs.History.{is_inner}
use Rattle.vs_tree.proofs.search.Reporting.{least-more, least-skip, not-inner}
use Rattle.vs_tree.proofs.tree.least_bound.Goals as goal

pub loop-k-preserved-in-Inner : goal.loop-k-preserved-in-Inner
loop-k-preserved-in-Inner c =
    least-skip c.args.places.now.places c.args.worths.now c.args.known c.loop-k.k c.loop-k.least c.loop-k.invariant
    (ap is_inner (sym c.spot.ensures ∙ c.in-Inner.is))

pub loop-k-preserved : goal.loop-k-preserved
loop-k-preserved c =
    let end = c.loop-k.auto.k-end in
    let inside : c.loop-k.k < length c.args.worths.now =
    omega (arith, end, c.loop-k-test.true, c.requires.sized, c.len-k-end.ensures, c.requires.few) in
    least-more c.args.places.now.places c.args.worths.now c.args.known c.loop-k.k c.loop-k.least c.loop-k.invariant
    _ c.lesser-least.result
    (ap is_inner (sym c.spot.ensures)
    ∙ not-inner c.spot.result (λ trip left lower upper is. c.in_default.not-Inner trip left lower upper is))
    (get_or_default c.args.worths.now c.loop-k.k NoPlan _ inside)
    c.lesser-least.ensures.choice c.lesser-least.ensures.one c.lesser-least.ensures.other
