use Rattle.vs_circ.proofs.shipping.SmallArcs.{small_arcs}
use Rattle.vs_circ.proofs.shipping.SmallSteps.{small_steps}
use Rattle.vs_circ.proofs.settling.settle.Goals as goal

pub prepare-requires-clause-arcs : goal.prepare-requires-clause-arcs
prepare-requires-clause-arcs c =
    let layer = c.requires.of_layer in small_arcs layer.0 layer.2 layer.1.0 c.args.net.now layer.3

pub prepare-requires-clause-steps : goal.prepare-requires-clause-steps
prepare-requires-clause-steps c =
    let layer = c.requires.of_layer in
    small_steps layer.0 layer.2 layer.1 c.args.net.now layer.3 c.args.offers.now layer.4
