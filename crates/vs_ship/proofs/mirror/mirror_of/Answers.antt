use Rattle.std.proofs.Common.{ℕ, sym, subst}
use Rattle.vs_layer.specs.Graph.{AllRight}
use Rattle.vs_match.proofs.CallerLemmas.{no_fault}
use Rattle.vs_ship.proofs.prices.Mirrored.{turned-right}
use Rattle.vs_ship.proofs.mirror.mirror_of.Goals as goal

pub unreachable-requires : goal.unreachable-requires
unreachable-requires c =
    let fault = rw c.in-Fault.is at c.in-Err.ensures.fault in
    let arcs = c.in_ok-arcs.arcs.items in
    no_fault c.nodes.result arcs c.in-Fault._fault
    (subst (λ (n : ℕ). AllRight n arcs) (sym c.nodes.ensures.count)
    (turned-right c.args.net.now arcs c.nodes.ensures.net c.in_ok-arcs.ensures))
    fault
