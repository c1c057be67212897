use Rattle.std.proofs.Common.{arith}
use Rattle.vs_walk.proofs.penalties.Penalties.run.Goals as goal

pub runs-requires-clause-of_layer : goal.runs-requires-clause-of_layer
runs-requires-clause-of_layer c =
    let nets = c.requires.case.nets in (
      c.args.case.now.instance.now,
      nets.instance,
      nets.lawful c.args.l.0 (omega (arith, nets.each_layer, c.requires.layer)),
      c.offer_all.ensures.offers,
    )
