use Rattle.std.proofs.Common.{◌∙◌, List, ap, sym, subst, length, arith}
use Rattle.std.proofs.lemmas.List.{length-map}
use Rattle.std.proofs.lemmas.List.Elements.{All-map}
use Rattle.std.specs.List.{All}
use Rattle.vs_layer.specs.Graph.{Graph}
use Rattle.vs_match.specs.declared.arc_kind.ArcKind.{ArcKind}
use Rattle.vs_match.specs.declared.arc_kind.LayerArc.{LayerArc}
use Rattle.vs_match.specs.Adds.{arc_in}
use Rattle.vs_match.specs.TripIndex.{IsBelow, IsTripIndex}
use Rattle.vs_match.proofs.layer_net.LayerNet.new.Goals as goal

-- what an arc stands for
abbrev kind : LayerArc → ArcKind
kind x = x.kind

pub trip_index-requires-clause-few_arcs : goal.trip_index-requires-clause-few_arcs
trip_index-requires-clause-few_arcs c =
    omega (
      arith,
      c.requires.few_arcs,
      ap length c.deref.ensures.value,
      ap length c.in_ok-kinds.ensures,
      length-map c.args.arcs.now kind,
    )

pub trip_index-requires-clause-of_trips : goal.trip_index-requires-clause-of_trips
trip_index-requires-clause-of_trips c =
    let P : List ArcKind → Type 0 = λ ks. All (IsBelow c.args.trips) ks in
    subst P (sym (c.deref.ensures.value ∙ c.in_ok-kinds.ensures))
    (All-map (IsBelow c.args.trips) kind c.args.arcs.now c.requires.of_trips)

pub invariant_of-result : goal.invariant_of-result
invariant_of-result c =
    let arcs = ap (λ (g : Graph). length g.arcs) c.in_ok-net.ensures ∙ length-map c.args.arcs.now arc_in in
    let P : List ArcKind → Type 0 = λ ks. IsTripIndex ks c.in_ok-trip_arcs.trip_arcs.items in
    record {
      labelled = record {
        each_arc = ap length c.in_ok-kinds.ensures ∙ length-map c.args.arcs.now kind ∙ sym arcs;
        each_node = omega (arith, ap (λ (g : Graph). g.nodes) c.in_ok-net.ensures, c.len.ensures, c.args.points.ok.0);
      };
      few = omega (
        arith,
        ap (λ (g : Graph). g.nodes) c.in_ok-net.ensures,
        c.len.ensures,
        c.args.points.ok.0,
        c.requires.few_points,
      );
      trips = subst P c.deref.ensures.value c.in_ok-trip_arcs.ensures;
    }
