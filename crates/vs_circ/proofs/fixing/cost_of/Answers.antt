use Rattle.std.proofs.Common.{◌≡◌, ◌<◌, ◌∙◌, ◌*ℤ◌, ℕ, length, map, get_or, pos, sym, ap, arith}
use Rattle.std.specs.List.{range_with_len}
use Rattle.std.proofs.lemmas.Int.{ints}
use Rattle.std.proofs.lemmas.List.{get_or_default}
use Rattle.vs_instance.proofs.CallerLemmas.{total-range_next}
use Rattle.vs_layer.specs.Graph.{Graph, arc_of}
use Rattle.vs_instance.specs.Lagrangian.{total}
use Rattle.vs_circ.proofs.low.Costs.{cost-in_order, cost_on, sum-fits}
use Rattle.vs_circ.proofs.fixing.cost_of.Goals as goal

pub loop-k-preserved : goal.loop-k-preserved
loop-k-preserved c =
    let g = c.args.net.now.graph in
    let units = c.args.flow.now.units.items in
    let k = c.loop-k.k in
    let inv = c.loop-k.invariant in
    let cost = c.cost_on-cost.ensures in
    let few = c.arcs-k-end.ensures.net.few_arcs in
    let added =
    (sum-fits c.loop-k.cost-bits k c.cost_on-cost.result
    (omega (arith, c.loop-k-test.true, c.arcs-k-end.ensures.count, few))
    inv.low inv.high cost.low cost.high).1 in
    let inside : k < length g.arcs =
    omega (
      arith,
      c.loop-k-test.true,
      c.arcs-k-end.ensures.count,
      ap (λ (h : Graph). length h.arcs) c.net.ensures.graph,
    ) in
    let unit : c.index.result.now ≡ get_or units k 0 =
    sym (get_or_default units k 0 c.index.result.now (omega (arith, inside, c.requires.units)) ∙ sym c.index.ensures) in
    let here : c.cost_on-cost.result ≡ cost_on g.arcs units k =
    cost.value ∙ ap (λ (u : ℕ). (arc_of g k).cost *ℤ pos u) unit in
    let next = total-range_next (cost_on g.arcs units) k in
    record {
      cost = let before = inv.cost in omega (arith, ints, added, here, next, before);
      low = let before = inv.low in let more = cost.low in omega (arith, ints, added, before, more);
      high = let before = inv.high in let more = cost.high in omega (arith, ints, added, before, more);
    }

pub returns : goal.returns
returns c =
    let g = c.args.net.now.graph in
    let units = c.args.flow.now.units.items in
    let all : c.loop-k.k ≡ length g.arcs =
    omega (
      arith,
      c.loop-k-test.false,
      c.loop-k.auto.k-end,
      c.arcs-k-end.ensures.count,
      ap (λ (h : Graph). length h.arcs) c.net.ensures.graph,
    ) in
    c.loop-k.invariant.cost
    ∙ ap (λ (n : ℕ). total (map (cost_on g.arcs units) (range_with_len 0 n))) all
    ∙ sym (cost-in_order g.arcs units c.requires.units)
