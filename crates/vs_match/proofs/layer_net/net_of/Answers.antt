use Rattle.std.proofs.Common.{List, sym, subst}
use Rattle.vs_layer.specs.declared.arc.Arc.{Arc}
use Rattle.vs_layer.specs.Graph.{AllRight}
use Rattle.vs_match.proofs.order.RightArcs.{no_fault}
use Rattle.vs_match.proofs.layer_net.net_of.Goals as goal

pub unreachable-requires : goal.unreachable-requires
unreachable-requires c =
    let arcs = c.new.ensures in
    let fault = rw c.in-Fault.is at c.in-Err.ensures.fault in
    no_fault c.args.nodes _ c.in-Fault._fault
    (subst (λ (as' : List Arc). AllRight c.args.nodes as') (sym c.in_ok-plain_arcs.ensures) c.requires.right) fault
