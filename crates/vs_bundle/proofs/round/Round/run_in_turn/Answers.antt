use Rattle.std.proofs.Common.{◌+◌, ◌<◌, length, arith}
use Rattle.std.proofs.lemmas.List.{length-set}
use Rattle.vs_match.specs.LayerNets.{net_at}
use Rattle.vs_circ.specs.shipping.Ready.{CanRun}
use Rattle.vs_bundle.specs.Runs.{HasRun, layer_at}
use Rattle.vs_bundle.proofs.Parts.{each_set}
use Rattle.vs_bundle.proofs.round.Round.run_in_turn.Goals as goal

pub loop-k-preserved : goal.loop-k-preserved
loop-k-preserved g c =
    let nets = c.args.self.now.nets.now in
    let places = c.args.places.now in
    let kept = c.loop-k.kept in
    let here : c.loop-k.k < length kept =
    omega (arith, c.loop-k-test.true, c.loop-k.invariant.each, c.loop-k.auto.k-end) in
    let has : HasRun (net_at nets (layer_at places c.loop-k.k)) c.args.self.now.offers.now (layer_at places c.loop-k.k)
    c.run_layer.new.kept =
    record { ready = c.run_layer.ensures.ready; settled = c.run_layer.ensures.settled } in
    record {
      each = omega (arith, c.loop-k.invariant.each, length-set kept c.loop-k.k c.run_layer.new.kept);
      ready = λ j d below.
          each_set (λ l one. CanRun (net_at nets l) one) (length kept) places kept c.loop-k.k c.run_layer.new.kept here
          c.run_layer.ensures.ready (λ i e less else. c.loop-k.invariant.ready i e less) j d
          (omega (arith, below, length-set kept c.loop-k.k c.run_layer.new.kept));
      run = each_set (λ l one. HasRun (net_at nets l) c.args.self.now.offers.now l one) (c.loop-k.k + 1) places kept
          c.loop-k.k c.run_layer.new.kept here has
          (λ i e less else. c.loop-k.invariant.run i e (omega (arith, less, else)));
    }
