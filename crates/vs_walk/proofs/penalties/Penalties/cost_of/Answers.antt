use Rattle.std.proofs.Common.{arith}
use Rattle.vs_walk.proofs.penalties.Penalties.cost_of.Goals as goal

pub runs-cost-requires-clause-of_layer : goal.runs-cost-requires-clause-of_layer
runs-cost-requires-clause-of_layer c =
    let nets = c.requires.case.nets in (
      c.args.case.now.instance.now,
      nets.instance,
      nets.lawful c.args.l.0 (omega (arith, nets.each_layer, c.requires.layer)),
      c.offer_given.ensures,
    )
