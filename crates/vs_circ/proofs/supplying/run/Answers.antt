use Rattle.std.proofs.Common.{◌≡◌, ◌∙◌, sym, ap, arith, length}
use Rattle.std.proofs.lemmas.List.{ext_get_or, length-map}
use Rattle.vs_layer.specs.Graph.{Graph}
use Rattle.vs_circ.specs.PricedFlows.{must_on, must_units}
use Rattle.vs_circ.proofs.low.Stuck.{must_unit}
use Rattle.vs_circ.proofs.supplying.run.Goals as goal

pub returns : goal.returns
returns c =
    let n = c.args.net.now in
    let must = c.args.must.now in
    let all : c.loop-k.k ≡ length n.graph.arcs =
    omega (
      arith,
      c.loop-k-test.false,
      c.loop-k.auto.k-end,
      c.arcs-k-end.ensures.count,
      ap (λ (g : Graph). length g.arcs) c.net.ensures.graph,
    ) in
    ext_get_or 0 c.loop-k.units (must_units n must)
    (omega (arith, c.loop-k.auto.units, c.requires, length-map n.kinds (must_on must), c.net.ensures.labelled.each_arc))
    (λ k within. c.loop-k.invariant k (omega (arith, all, within, c.loop-k.auto.units, c.requires))
    ∙ sym (must_unit must n.kinds k))
