-- What it takes to go along the arcs of nets once.
use Rattle.std.specs.Prelude.{◌≡◌, ◌≢◌, ℕ, ◌+◌, ◌-◌, ◌^◌, ◌<◌, List, min, sum_by}
use Rattle.vs_layer.specs.Graph.{IsNet, arc_of}
use Rattle.vs_match.specs.declared.arc_kind.ArcKind.TheVariants.{Return}
use Rattle.vs_match.specs.LayerGraph.{LayerGraph, IsLabelled, IsArcOfTrip, arcs_in, kind_of}
use Rattle.vs_match.specs.LayerNets.{HasRisingArcs}
pub use Rattle.vs_match.specs.LayerNets.{AreNets}

-- the arcs of all layers
abbrev pub all_arcs : List LayerGraph → ℕ
all_arcs nets = sum_by arcs_in nets

-- a count after one more, which stays at the greatest u64 once it is there
abbrev pub one_more : ℕ → ℕ
one_more n = min (n + 1) (2 ^ 64 - 1)

-- a net whose arcs may be gone along once, of trips below this number: all but the return arc go up, and each trip has
-- one arc at most
pub record CanBePassed (n : LayerGraph) (trips : ℕ) : Type 0 where
  pub net : IsNet n.graph
  pub labelled : IsLabelled n
  pub rising : HasRisingArcs n
  pub upward : (k : ℕ) → k < arcs_in n → kind_of n k ≢ Return → (arc_of n.graph k).from < (arc_of n.graph k).to
  pub below : (i k : ℕ) → IsArcOfTrip n.kinds i k → i < trips
  pub one_arc : (i j k : ℕ) → IsArcOfTrip n.kinds i j → IsArcOfTrip n.kinds i k → j ≡ k
