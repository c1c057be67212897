use Rattle.std.proofs.Common.{ℕ, ◌<◌, ◌≤◌, get_or}
use Rattle.vs_layer.specs.Graph.{arc_of}
use Rattle.test_search.proofs.decompositions.has_room.Given as goal

abbrev pub invariant-loop-k : goal.invariant-loop-k
invariant-loop-k l = (k : ℕ) → k < l.k → get_or l.flow.units.items k 0 ≤ (arc_of l.net k).room
