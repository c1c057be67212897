use Rattle.std.proofs.Common.{◌+◌, List, map, sym, subst, length, arith}
use Rattle.std.proofs.Math.ListN.{length-map}
use Rattle.vs_layer.specs.Graph.{Graph, IsNet}
use Rattle.vs_match.specs.declared.arc_kind.ArcKind.{ArcKind}
use Rattle.vs_match.specs.declared.arc_kind.LayerArc.{LayerArc}
use Rattle.vs_match.specs.Adds.{arc_in, AreArcs}
use Rattle.vs_match.specs.LayerGraph.{IsNetOf}
use Rattle.vs_match.specs.LawfulNets.{IsLawful}
use Rattle.vs_match.specs.WalkLaw.{HasWalkLaw}
use Rattle.vs_match.proofs.matches.WholeNet.{some_arc, all_right, all_below, is_net, net_of_parts}
use Rattle.vs_match.proofs.walks.Lawful.{is_lawful}
use Rattle.vs_match.proofs.walks.WalkLaws.{walk_law}
use Rattle.vs_match.proofs.building.build.Goals as goal

abbrev kind : LayerArc → ArcKind
kind x = x.kind

pub new-requires-clause-some_arc : goal.new-requires-clause-some_arc
new-requires-clause-some_arc c =
    let are =
    subst (λ (xs : List LayerArc). AreArcs c.args.instance.now c.args.l.0 c.args.matching
    c.in_ok-nodes.nodes.points.items xs)
    (sym c.deref.ensures.value) c.in_ok-arcs.ensures.arcs in
    some_arc c.args.instance.now c.trips.ensures.instance c.args.l.0 c.requires c.args.matching
    c.in_ok-nodes.nodes.points.items c.in_ok-nodes.ensures.points c.deref.result.now are

pub new-requires-clause-right : goal.new-requires-clause-right
new-requires-clause-right c =
    let are =
    subst (λ (xs : List LayerArc). AreArcs c.args.instance.now c.args.l.0 c.args.matching
    c.in_ok-nodes.nodes.points.items xs)
    (sym c.deref.ensures.value) c.in_ok-arcs.ensures.arcs in
    all_right c.args.instance.now c.trips.ensures.instance c.args.l.0 c.requires c.args.matching
    c.in_ok-nodes.nodes.points.items c.in_ok-nodes.ensures.points c.deref.result.now are

pub new-requires-clause-of_trips : goal.new-requires-clause-of_trips
new-requires-clause-of_trips c = λ k d within.
    let are =
    subst (λ (xs : List LayerArc). AreArcs c.args.instance.now c.args.l.0 c.args.matching
    c.in_ok-nodes.nodes.points.items xs)
    (sym c.deref.ensures.value) c.in_ok-arcs.ensures.arcs in
    rw c.trips.ensures.count
    (all_below c.args.instance.now c.trips.ensures.instance c.args.l.0 c.requires c.args.matching
    c.in_ok-nodes.nodes.points.items c.in_ok-nodes.ensures.points c.deref.result.now are
    k d within)

pub returns-clause-net : goal.returns-clause-net
returns-clause-net c =
    let p = c.args.instance.now in
    let l = c.args.l.0 in
    let points = c.in_ok-nodes.nodes.points.items in
    let arcs = c.deref.result.now in
    let are =
    subst (λ (xs : List LayerArc). AreArcs p l c.args.matching points xs)
    (sym c.deref.ensures.value) c.in_ok-arcs.ensures.arcs in
    net_of_parts (IsNetOf p l c.args.matching) (record { nodes = length points + 2; arcs = map arc_in arcs })
    (map kind arcs) points c.new.result
    c.new.ensures.graph c.new.ensures.kinds c.new.ensures.points
    (is_net p c.trips.ensures.instance l c.requires c.args.matching points c.in_ok-nodes.ensures.points arcs are)

pub returns-clause-walks : goal.returns-clause-walks
returns-clause-walks c =
    let p = c.args.instance.now in
    let l = c.args.l.0 in
    let points = c.in_ok-nodes.nodes.points.items in
    let arcs = c.deref.result.now in
    let are =
    subst (λ (xs : List LayerArc). AreArcs p l c.args.matching points xs)
    (sym c.deref.ensures.value) c.in_ok-arcs.ensures.arcs in
    net_of_parts (HasWalkLaw p l) (record { nodes = length points + 2; arcs = map arc_in arcs })
    (map kind arcs) points c.new.result
    c.new.ensures.graph c.new.ensures.kinds c.new.ensures.points
    (walk_law p c.trips.ensures.instance l c.args.matching _
    (is_net p c.trips.ensures.instance l c.requires c.args.matching points c.in_ok-nodes.ensures.points arcs are))

pub returns-clause-lawful : goal.returns-clause-lawful
returns-clause-lawful c =
    let p = c.args.instance.now in
    let l = c.args.l.0 in
    let points = c.in_ok-nodes.nodes.points.items in
    let arcs = c.deref.result.now in
    let are =
    subst (λ (xs : List LayerArc). AreArcs p l c.args.matching points xs)
    (sym c.deref.ensures.value) c.in_ok-arcs.ensures.arcs in
    let inst = c.trips.ensures.instance in
    let nodes = c.in_ok-nodes.ensures.points in
    let graph : Graph = record { nodes = length points + 2; arcs = map arc_in arcs } in
    let net : IsNet graph = record {
      nodes = omega arith;
      some_arc = rw (length-map) (some_arc p inst l c.requires c.args.matching points nodes arcs are);
      few_arcs = rw (length-map, c.deref.ensures.value) c.in_ok-arcs.ensures.few;
      each_arc = all_right p inst l c.requires c.args.matching points nodes arcs are;
    } in
    net_of_parts (IsLawful p l) graph (map kind arcs) points c.new.result
    c.new.ensures.graph c.new.ensures.kinds c.new.ensures.points
    (is_lawful p inst l c.requires c.args.matching _
    (is_net p inst l c.requires c.args.matching points nodes arcs are) net)
