use Rattle.std.proofs.Common.{◌≡◌, ℕ}
use Rattle.vs_layer.specs.declared.arc.Arc.{Arc}
use Rattle.vs_layer.specs.Ends.{no_arc}
use Rattle.vs_layer.specs.Graph.{arc_of}
use Rattle.vs_ship.specs.Mirror.{turned}
use Rattle.vs_types.proofs.CallerLemmas.{AreSoFar}
use Rattle.vs_ship.proofs.mirror.turned_arcs.Given as goal

abbrev pub invariant-loop-k : goal.invariant-loop-k
invariant-loop-k l = AreSoFar no_arc (λ (k : ℕ) (a : Arc). a ≡ turned l.net.nodes (arc_of l.net k)) l.arcs.items l.k
