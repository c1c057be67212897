use Rattle.std.proofs.Common.{◌≡◌, ◌∙◌, ℕ, ap}
use Rattle.vs_layer.specs.declared.arc.Arc.{Arc}
use Rattle.vs_layer.specs.Ends.{no_arc}
use Rattle.vs_layer.specs.Graph.{arc_of}
use Rattle.vs_ship.specs.Mirror.{turned}
use Rattle.vs_types.proofs.CallerLemmas.{pushed-more}
use Rattle.vs_ship.proofs.mirror.turned_arcs.Goals as goal

pub loop-k-preserved : goal.loop-k-preserved
loop-k-preserved c =
    let net = c.args.net.now in
    pushed-more no_arc (λ (k : ℕ) (a : Arc). a ≡ turned net.nodes (arc_of net k)) c.loop-k.arcs.items
    c.push.new.self.items c.loop-k.k c.turned.result c.in_ok-push.ensures.items c.loop-k.invariant
    (c.turned.ensures ∙ ap (λ (n : ℕ). turned n c.arc.result) c.nodes.ensures.count
    ∙ ap (λ (a : Arc). turned net.nodes a) c.arc.ensures)
