use Rattle.std.proofs.Common.{subst}
use Rattle.vs_match.specs.LayerGraph.{LayerGraph}
use Rattle.vs_circ.specs.shipping.Ready.{CanRun}
use Rattle.vs_bundle.proofs.Parts.{may_run, net_there}
use Rattle.vs_bundle.proofs.lanes.run_layer.Goals as goal

-- the offers of this layer are those of its net
pub run_from-requires : goal.run_from-requires
run_from-requires c =
    let nets = c.args.nets.now in
    let l = c.args.layer in
    let net = c.index-nets-layer.result in
    let Can : LayerGraph → Type 0 = λ n. CanRun n c.args.kept.now in
    record {
      of_layer = may_run nets c.args.offers.now c.requires.offers l c.requires.within net net c.index-nets-layer.is
          c.index-offers-layer.result c.index-offers-layer.is c.deref.result.now c.deref.ensures.value;
      kept = subst Can (net_there nets l c.requires.within net net c.index-nets-layer.is) c.requires.ready;
    }
