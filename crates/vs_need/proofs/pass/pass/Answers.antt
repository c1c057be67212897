use Rattle.std.proofs.Common.{◌≡◌, ◌∙◌, ◌<◌, ℕ, List, Option, arith, length, rules, ap, sym, subst, w64, FitsSigned, ℤ}
use Rattle.vs_layer.specs.declared.arc.Arc.{Arc}
use Rattle.vs_layer.specs.Graph.{arc_of}
use Rattle.vs_match.specs.declared.arc_kind.ArcKind.{ArcKind}
use Rattle.vs_match.specs.LayerGraph.{LayerGraph, arcs_in, kind_of}
use Rattle.vs_match.specs.LayerNets.{net_at}
use Rattle.vs_match.specs.TripIndex.{IsBelow}
use Rattle.vs_need.specs.Reading.{arc_after}
use Rattle.vs_need.proofs.Widths.{price_fits_at}
use Rattle.vs_need.proofs.LawfulPasses.{kind_below}
use Rattle.vs_need.proofs.Passing.{passed}
use Rattle.vs_need.proofs.pass.pass.Goals as goal

pub read_arc-requires-clause-trip : goal.read_arc-requires-clause-trip
read_arc-requires-clause-trip g c =
    let n = net_at (g.N.ArcReader.nets c.args.nets.now) c.args.at.l.0 in
    let here : net_at (g.N.ArcReader.nets c.loop-read.nets) c.args.at.l.0 ≡ n =
    ap (λ (ns : List LayerGraph). net_at ns c.args.at.l.0) c.loop-read.invariant.nets in
    let within : c.arc_after.result < arcs_in n = omega (arith, c.arc_after.ensures.of_net, c.arcs-arcs.ensures) in
    let kind : c.arc-arc.result.1 ≡ kind_of n c.arc_after.result =
    c.arc-arc.ensures.kind ∙ ap (λ (m : LayerGraph). kind_of m c.arc_after.result) here in
    subst (λ (k : ArcKind). IsBelow (length c.args.into.now) k) (sym kind)
    (kind_below n (length c.args.into.now) c.arc_after.result c.requires.net within)

pub loop-read-preserved : goal.loop-read-preserved
loop-read-preserved g c =
    let n = net_at (g.N.ArcReader.nets c.args.nets.now) c.args.at.l.0 in
    let here : net_at (g.N.ArcReader.nets c.loop-read.nets) c.args.at.l.0 ≡ n =
    ap (λ (ns : List LayerGraph). net_at ns c.args.at.l.0) c.loop-read.invariant.nets in
    let fits : FitsSigned w64 c.arc-arc.result.0.cost = search rules in
    let arc : c.arc-arc.result.0 ≡ arc_of n.graph c.arc_after.result =
    c.arc-arc.ensures.arc ∙ ap (λ (m : LayerGraph). arc_of m.graph c.arc_after.result) here in
    let each = price_fits_at c.args.into.now c.requires.prices in
    record {
      nets = c.arc-arc.ensures.nets ∙ c.loop-read.invariant.nets;
      reads = omega (arith, c.arc-arc.ensures.reads, c.loop-read.invariant.reads);
      under_way =
          passed n c.args.into.now c.args.ray c.args.at.aim c.requires.net c.loop-read.read c.arc_after.result
          c.loop-read.values c.loop-read.found
          (c.arc_after.ensures.number ∙ ap (λ (m : ℕ). arc_after c.args.at.aim m c.loop-read.read) c.arcs-arcs.ensures)
          (omega (arith, c.loop-read-test.true, c.arcs-arcs.ensures))
          (omega (arith, c.arc_after.ensures.of_net, c.arcs-arcs.ensures)) c.loop-read.invariant.under_way
          (omega (
            arith,
            c.requires.values,
            c.loop-read.auto.values,
            ap (λ (xs : List (Option ℤ)). length xs)
                c.forget.ensures.values,
          ))
          (omega (
            arith,
            c.requires.found,
            c.loop-read.auto.found,
            ap (λ (xs : List (Option ℤ)). length xs)
                c.forget.ensures.found,
          )) each
          (subst (λ (a : Arc). FitsSigned w64 a.cost) arc fits)
          c.arc-arc.result.0 c.arc-arc.result.1 c.read_arc.new.values c.read_arc.new.found arc
          (c.arc-arc.ensures.kind ∙ ap (λ (m : LayerGraph). kind_of m c.arc_after.result) here)
          c.read_arc.ensures.values c.read_arc.ensures.found;
    }
