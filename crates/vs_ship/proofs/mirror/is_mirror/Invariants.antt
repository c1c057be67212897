use Rattle.std.proofs.Common.{◌≡◌, ◌<◌, ℕ}
use Rattle.vs_layer.specs.Graph.{arc_of}
use Rattle.vs_ship.specs.Mirror.{turned}
use Rattle.vs_ship.proofs.mirror.is_mirror.Given as goal

-- the arcs so far are those of the net turned round
abbrev pub invariant-loop-k : goal.invariant-loop-k
invariant-loop-k l = (j : ℕ) → j < l.k → arc_of l.mirror j ≡ turned l.net.nodes (arc_of l.net j)
