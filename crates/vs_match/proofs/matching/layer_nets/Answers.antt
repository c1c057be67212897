use Rattle.std.proofs.Common.{ℕ, ◌+◌, ◌<◌, List, arith, rules, sym, subst}
use Rattle.vs_match.specs.declared.matching.Matching.TheVariants.{Latest}
use Rattle.vs_match.specs.LayerGraph.{LayerGraph}
use Rattle.vs_match.specs.LawfulNets.{IsLawful}
use Rattle.vs_match.specs.LayerNets.{HasRisingArcs, net_at}
use Rattle.vs_match.proofs.matches.Built.{net_rises, one_more_net}
use Rattle.vs_match.proofs.matching.layer_nets.Goals as goal

pub loop-l-preserved : goal.loop-l-preserved
loop-l-preserved c =
    let pushed = c.in_ok-push.ensures.items in
    let n = c.in_ok-net.net in
    let Lawful : List LayerGraph → Type 0 =
    λ nets. (k : ℕ) → k < c.loop-l.l + 1 → IsLawful c.args.instance.now k (net_at nets k) in
    let Rising : List LayerGraph → Type 0 = λ nets. (k : ℕ) → k < c.loop-l.l + 1 → HasRisingArcs (net_at nets k) in
    record {
      each = search rules;
      lawful = subst Lawful (sym pushed)
          (one_more_net (IsLawful c.args.instance.now) c.loop-l.nets.items n c.loop-l.l c.loop-l.invariant.each
          c.loop-l.invariant.lawful c.in_ok-net.ensures.lawful);
      rising = subst Rising (sym pushed)
          (one_more_net (λ k net. HasRisingArcs net) c.loop-l.nets.items n c.loop-l.l c.loop-l.invariant.each
          c.loop-l.invariant.rising (net_rises c.args.instance.now c.loop-l.l Latest n c.in_ok-net.ensures.net));
    }

pub returns : goal.returns
returns c = record {
  of_layers = record {
    instance = c.layers-l-end.ensures.instance;
    each_layer = omega (
      arith,
      c.loop-l.invariant.each,
      c.loop-l-test.false,
      c.layers-l-end.ensures.count,
      c.loop-l.auto.l-end,
    );
    lawful = λ k within. c.loop-l.invariant.lawful k (omega (arith, c.loop-l.invariant.each, within));
  };
  rising = λ k within. c.loop-l.invariant.rising k (omega (arith, c.loop-l.invariant.each, within));
}
