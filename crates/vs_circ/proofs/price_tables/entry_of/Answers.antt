use Rattle.std.proofs.Common.{◌≡◌, ◌∙◌, ap, sym, subst, rules, arith, ℤ, ◌-ℤ◌, to_z, of_z, w64, SFits, get_or}
use Rattle.std.proofs.lemmas.Int.{ints, to_z-of_z}
use Rattle.vs_layer.specs.declared.arc.Arc.{Arc}
use Rattle.vs_layer.specs.Graph.{Graph, arc_of}
use Rattle.vs_path.specs.Residual.{IsWithin, price_at}
use Rattle.vs_ship.specs.declared.gaps.TheConstants.{MAX_NODE_PRICE}
use Rattle.vs_circ.specs.node_prices.Leeways.{passing, shifted}
use Rattle.vs_circ.proofs.prices.Entries.{base-within, entry-apart, entry-of-arc}
use Rattle.vs_circ.proofs.price_tables.entry_of.Goals as goal

pub overflow_sub-prices : goal.overflow_sub-prices
overflow_sub-prices c =
    let at = c.requires.within c.passing-node.result in
    let far : IsWithin MAX_NODE_PRICE c.base_of-base.result =
    subst (λ (z : ℤ). IsWithin MAX_NODE_PRICE z) (sym c.base_of-base.ensures)
    (base-within c.args.net.now c.args.prices.now c.requires.within) in
    omega (arith, ints, at.low, at.high, far.low, far.high)

pub shifted-requires-clause-price : goal.shifted-requires-clause-price
shifted-requires-clause-price c =
    let n = c.args.net.now in
    let prices = c.args.prices.now in
    let node = c.passing-node.result in
    let at = c.requires.within node in
    let far : IsWithin MAX_NODE_PRICE c.base_of-base.result =
    subst (λ (z : ℤ). IsWithin MAX_NODE_PRICE z) (sym c.base_of-base.ensures)
    (base-within n prices c.requires.within) in
    let price = price_at prices node in
    let exact : to_z w64 (of_z w64 (to_z w64 (of_z w64 price) -ℤ to_z w64 (of_z w64 c.base_of-base.result)))
    ≡ price -ℤ c.base_of-base.result = omega (arith, ints, at.low, at.high, far.low, far.high) in
    let apart =
    entry-apart c.requires.of_layer.0 c.requires.of_layer.1 n c.args.side prices c.args.trip.0 c.in-Some.k node
    c.base_of-base.result c.requires.of_layer.2 c.requires.each_node c.requires.span c.in-Some.ensures
    (c.passing-node.ensures ∙ ap (λ (a : Arc). passing c.args.side a) c.arc.ensures
    ∙ ap (λ (g : Graph). passing c.args.side (arc_of g c.in-Some.k)) c.net.ensures.graph)
    c.base_of-base.ensures in
    subst (λ (z : ℤ). IsWithin MAX_NODE_PRICE z) (sym exact) apart

pub returns : goal.returns
returns c =
    let n = c.args.net.now in
    let prices = c.args.prices.now in
    let node = c.passing-node.result in
    let price = price_at prices node in
    let at = c.requires.within node in
    let far : IsWithin MAX_NODE_PRICE c.base_of-base.result =
    subst (λ (z : ℤ). IsWithin MAX_NODE_PRICE z) (sym c.base_of-base.ensures)
    (base-within n prices c.requires.within) in
    let exact : to_z w64 (of_z w64 (to_z w64 (of_z w64 price) -ℤ to_z w64 (of_z w64 c.base_of-base.result)))
    ≡ price -ℤ c.base_of-base.result = omega (arith, ints, at.low, at.high, far.low, far.high) in
    let fits : SFits w64 c.shifted.result = search rules in
    let here : node ≡ passing c.args.side (arc_of n.graph c.in-Some.k) =
    c.passing-node.ensures ∙ ap (λ (a : Arc). passing c.args.side a) c.arc.ensures
    ∙ ap (λ (g : Graph). passing c.args.side (arc_of g c.in-Some.k)) c.net.ensures.graph in
    let apart =
    entry-apart c.requires.of_layer.0 c.requires.of_layer.1 n c.args.side prices c.args.trip.0 c.in-Some.k node
    c.base_of-base.result c.requires.of_layer.2 c.requires.each_node c.requires.span c.in-Some.ensures here
    c.base_of-base.ensures in
    simp to_z-of_z
    (entry-of-arc c.requires.of_layer.0 c.requires.of_layer.1 n c.args.side prices c.args.leeways.now c.args.trip.0
    c.in-Some.k node c.base_of-base.result c.shifted.result c.requires.of_layer.2 apart c.requires.leeways.few
    c.in-Some.ensures here c.base_of-base.ensures
    (c.shifted.ensures ∙ ap (λ (z : ℤ). shifted c.args.side z (get_or c.args.leeways.now node 0)) exact))
