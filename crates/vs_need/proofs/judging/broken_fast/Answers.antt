use Rattle.std.proofs.Common.{◌∙◌, ◌<◌, List, length, arith, ap}
use Rattle.std.proofs.lemmas.List.Sums.{sum_by_more, sum_by_more_le}
use Rattle.vs_instance.proofs.CallerLemmas.{first_below-step, first_below-found}
use Rattle.vs_match.specs.LayerGraph.{LayerGraph}
use Rattle.vs_prices.specs.Breaks.{layer_breaks}
use Rattle.vs_match.specs.LayerNets.{net_at, no_net}
use Rattle.vs_match.specs.LayerGraph.{arcs_in}
use Rattle.vs_need.proofs.Cuts.{kept-kept}
use Rattle.vs_need.proofs.judging.broken_fast.Goals as goal

pub returns-in-Some-clause-first : goal.returns-in-Some-clause-first
returns-in-Some-clause-first g c =
    let given = c.requires.1 in
    first_below-found (layer_breaks g.p c.args.table.now) c.loop-l.l (length g.p.layers) _ c.loop-l.invariant.so_far
    c.in-Some.at (omega (arith, c.layers-l-end.ensures, c.loop-l-test.true, given.nets_are.of_layers.each_layer))
    c.in-Some.ensures.first

pub returns-in-Some-clause-reads : goal.returns-in-Some-clause-reads
returns-in-Some-clause-reads g c =
    let nets = g.N.ArcReader.nets c.args.nets.now in
    let within : c.loop-l.l < length nets = omega (arith, c.layers-l-end.ensures, c.loop-l-test.true) in
    let same = ap (λ (ns : List LayerGraph). arcs_in (net_at ns c.loop-l.l)) c.loop-l.invariant.nets in
    let more = sum_by_more_le arcs_in nets c.loop-l.l no_net within in
    omega (arith, same, more, c.broken_in_layer-found.ensures.reads, c.loop-l.invariant.reads)

pub loop-l-preserved : goal.loop-l-preserved
loop-l-preserved g c =
    let given = c.requires.1 in
    let nets = g.N.ArcReader.nets c.args.nets.now in
    let within : c.loop-l.l < length nets = omega (arith, c.layers-l-end.ensures, c.loop-l-test.true) in
    let same = ap (λ (ns : List LayerGraph). arcs_in (net_at ns c.loop-l.l)) c.loop-l.invariant.nets in
    let more = sum_by_more arcs_in nets c.loop-l.l no_net within in
    record {
      nets = c.broken_in_layer-found.ensures.nets ∙ c.loop-l.invariant.nets;
      reads = omega (arith, same, more, c.broken_in_layer-found.ensures.reads, c.loop-l.invariant.reads);
      kept = kept-kept c.args.scratch.now c.loop-l.scratch c.broken_in_layer-found.new.scratch c.loop-l.invariant.kept
          c.broken_in_layer-found.ensures.kept;
      so_far =
          first_below-step (layer_breaks g.p c.args.table.now) c.loop-l.l (length g.p.layers) _
          c.loop-l.invariant.so_far (omega (arith, within, given.nets_are.of_layers.each_layer))
          c.in_default.ensures.first;
    }
