use Rattle.vs_circ.proofs.shipping.SmallArcs.{small_arcs}
use Rattle.vs_circ.proofs.running.run_from.Goals as goal

pub recall-requires-clause-arcs : goal.recall-requires-clause-arcs
recall-requires-clause-arcs c =
    let layer = c.requires.of_layer in small_arcs layer.0 layer.2 layer.1.0 c.args.net.now layer.3
