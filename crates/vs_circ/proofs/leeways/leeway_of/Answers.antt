use Rattle.std.proofs.Common.{◌∙◌, ap, get_or, false, arith}
use Rattle.vs_layer.specs.Graph.{Graph}
use Rattle.vs_circ.specs.declared.leeways.TheConstants.{MAX_LEEWAY}
use Rattle.vs_circ.specs.node_prices.Leeways.{ArcAllows, limits_of}
use Rattle.vs_circ.proofs.prices.NodeLimits.{limits-arc}
use Rattle.vs_circ.proofs.prices.Passes.{allowed-more, allowed-all, allowed-each}
use Rattle.vs_circ.proofs.leeways.leeway_of.Goals as goal

pub limit_of-requires-clause-arc : goal.limit_of-requires-clause-arc
limit_of-requires-clause-arc c =
    let n = c.args.net.now in
    let are =
    c.limits-arcs.ensures ∙ ap (λ (g : Graph). limits_of c.args.side g c.args.node) c.net.ensures.graph in
    (limits-arc c.args.side n.graph c.args.node c.limits-arcs.result.now are c.loop-k.k-index c.loop-k-test.true).0

pub loop-k-preserved : goal.loop-k-preserved
loop-k-preserved c =
    allowed-more
    (λ j y. ArcAllows c.args.net.now false c.args.side c.args.prices.now c.args.leeways.now
    (get_or c.limits-arcs.result.now j 0) y)
    MAX_LEEWAY c.loop-k.k-index c.loop-k.leeway c.limit_of.result c.min-leeway.result c.loop-k.invariant
    c.limit_of.ensures c.min-leeway.ensures

pub returns : goal.returns
returns c = λ y.
    let n = c.args.net.now in
    let prices = c.args.prices.now in
    let leeways = c.args.leeways.now in
    let arcs = c.limits-arcs.result.now in
    let are =
    c.limits-arcs.ensures ∙ ap (λ (g : Graph). limits_of c.args.side g c.args.node) c.net.ensures.graph in (
      λ less. allowed-all n false c.args.side prices leeways c.args.node c.loop-k.k-index y arcs are
          (omega (arith, c.loop-k-test.false)) ((c.loop-k.invariant y).0 less),
      λ is. (c.loop-k.invariant y).1
          (allowed-each n false c.args.side prices leeways c.args.node c.loop-k.k-index y arcs are (omega arith) is),
    )
