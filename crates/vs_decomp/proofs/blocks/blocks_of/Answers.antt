use Rattle.std.proofs.Common.{◌≡◌, ℕ, ◌-◌, ◌<◌, List, [], length, get_or, set, replicate, sym, ap, ◌∙◌, subst, arith}
use Rattle.std.specs.List.{filter}
use Rattle.std.proofs.lemmas.List.{get_or_read, length-map}
use Rattle.vs_layer.specs.Graph.{Graph}
use Rattle.vs_instance.specs.Plan.{LayerBlock}
use Rattle.vs_match.specs.Decomposition.{Decompose}
use Rattle.vs_match.specs.Underway.{units_back}
use Rattle.vs_decomp.specs.Stands.{IsAt, has_run, standing, vehicles_at}
use Rattle.vs_decomp.proofs.Arrived.{at_first, are_blocks}
use Rattle.vs_decomp.proofs.Standing.{row}
use Rattle.vs_decomp.proofs.blocks.blocks_of.Goals as goal

pub loop-v-init : goal.loop-v-init
loop-v-init c =
    let n = c.args.net.now in
    let l = c.args.l in
    let units = c.args.flow.now.units.items in
    let nodes : c.nodes-nodes.result ≡ n.graph.nodes =
    c.nodes-nodes.ensures.count ∙ ap (λ (g : Graph). g.nodes) c.net-graph.ensures.graph in
    let arcs : c.arcs.result ≡ length n.graph.arcs =
    c.arcs.ensures.count ∙ ap (λ (g : Graph). length g.arcs) c.net-graph.ensures.graph in
    let within : c.arcs.result - 1 < length units =
    omega (arith, arcs, c.requires.circulation.each_arc, c.requires.lawful.net.some_arc) in
    let vehicles : c.index-vehicles.result.now ≡ units_back n.graph units =
    get_or_read units (c.arcs.result - 1) c.index-vehicles.result.now within c.index-vehicles.ensures 0
    ∙ ap (λ (k : ℕ). get_or units (k - 1) 0) arcs in
    at_first n l c.requires.lawful.net units c.requires.circulation (standing c.in_ok-underway.underway.stands.items)
    (c.in_ok-underway.ensures
    ∙ ap (λ (m : ℕ). set (replicate m []) 0 (replicate c.index-vehicles.result.now (l, []))) nodes
    ∙ ap (λ (m : ℕ). set (replicate n.graph.nodes []) 0 (replicate m (l, []))) vehicles)

pub returns : goal.returns
returns c =
    let n = c.args.net.now in
    let l = c.args.l in
    let units = c.args.flow.now.units.items in
    let p = c.args.instance.now in
    let nodes : c.nodes-nodes.result ≡ n.graph.nodes =
    c.nodes-nodes.ensures.count ∙ ap (λ (g : Graph). g.nodes) c.net-graph.ensures.graph in
    let last : c.loop-v.v ≡ n.graph.nodes - 1 = omega (arith, nodes, c.loop-v-test.false, c.loop-v.auto.v-end) in
    let stands = c.loop-v.underway.stands.items in
    let at = subst (λ (v : ℕ). IsAt n l units v [] (standing stands)) last c.loop-v.invariant in
    let blocks = are_blocks p c.layers.ensures.instance l n c.requires.lawful units c.requires.circulation
    (standing stands) at in
    let same = c.into_blocks.ensures
    ∙ ap (λ (k : ℕ). filter has_run (vehicles_at (standing stands) (k - 1))) (sym (length-map stands row)) in
    subst (λ (bs : List LayerBlock). Decompose p l n units bs) (sym same) blocks
