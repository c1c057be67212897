use Rattle.std.proofs.Common.{ℕ, ◌<◌, length}
use Rattle.vs_layer.specs.Ends.{arc_at}
use Rattle.vs_layer.specs.Graph.{IsRightArc}
use Rattle.vs_layer.proofs.net.first_fault.Given as goal

-- the arcs so far are right
abbrev pub invariant-loop-k : goal.invariant-loop-k
invariant-loop-k l = (j : ℕ) → j < l.k → IsRightArc l.nodes (length l.arcs) j (arc_at l.arcs j)
