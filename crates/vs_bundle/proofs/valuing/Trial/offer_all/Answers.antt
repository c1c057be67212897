use Rattle.std.proofs.Common.{arith}
use Rattle.vs_types.specs.declared.numbers.LayerNo.{LayerNo}
use Rattle.vs_bundle.proofs.valuing.Trial.offer_all.Goals as goal

-- each net is that of its layer
pub returns-clause-offered : goal.returns-clause-offered
returns-clause-offered c =
    let nets = c.requires.case.nets in
    record {
      each_net = omega (arith, c.loop-l.invariant.trial.each_layer, nets.each_layer);
      lawful = λ k d below.
          let l : LayerNo = record { 0 = k } in (
            c.args.case.now.instance.now,
            l,
            nets.instance,
            nets.lawful k below,
            c.loop-l.invariant.offered k d (omega (arith, below, nets.each_layer, c.loop-l-test.false)),
          );
    }
