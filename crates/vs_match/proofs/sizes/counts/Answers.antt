use Rattle.std.proofs.Common.{◌≡◌, ℕ, ◌-◌, ◌∙◌, List, [], length, take, ap, arith}
use Rattle.std.proofs.lemmas.List.{take_all}
use Rattle.vs_layer.specs.Graph.{Graph}
use Rattle.vs_match.specs.declared.arc_kind.ArcKind.{ArcKind}
use Rattle.vs_match.specs.Sizes.{counts_from, stop_points, line_points}
use Rattle.vs_match.proofs.matches.Counting.{stops_and_line}
use Rattle.vs_match.proofs.sizes.counts.Goals as goal

pub loop-k-init : goal.loop-k-init
loop-k-init c =
    let points = c.args.net.now.points in
    let nodes : c.nodes.result - 2 - c.line_count-line.result ≡ stop_points points =
    omega (
      arith,
      c.line_count-line.ensures,
      stops_and_line points,
      c.nodes.ensures.count,
      ap (λ (g : Graph). g.nodes) c.net-graph.ensures.graph,
      c.net-graph.ensures.labelled.each_node,
    ) in
    ap (λ (n : ℕ). counts_from n c.line_count-line.result []) nodes
    ∙ ap (λ (n : ℕ). counts_from (stop_points points) n []) c.line_count-line.ensures

pub returns : goal.returns
returns c =
    let n = c.args.net.now in
    let all : c.loop-k.k ≡ length n.kinds =
    omega (
      arith,
      c.loop-k.auto.k-end,
      c.loop-k-test.false,
      c.arcs-k-end.ensures.count,
      ap (λ (g : Graph). length g.arcs) c.net-graph.ensures.graph,
      c.net-graph.ensures.labelled.each_arc,
    ) in
    c.loop-k.invariant
    ∙ ap (λ (ks : List ArcKind). counts_from (stop_points n.points) (line_points n.points) ks)
    (ap (λ (k : ℕ). take k n.kinds) all ∙ take_all (length n.kinds) n.kinds (omega arith))
