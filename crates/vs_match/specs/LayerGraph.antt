-- A layer's net as a whole.
use Rattle.std.specs.Prelude.{◌≡◌, ℕ, ◌+◌, ◌<◌, List, length, Option, slice_index_or}
use Rattle.vs_layer.specs.declared.arc.Arc.{Arc}
use Rattle.vs_layer.specs.Graph.{Graph, arc_of}
use Rattle.vs_instance.specs.Problem.{Problem}
use Rattle.vs_match.specs.declared.event.Event.{Event}
use Rattle.vs_match.specs.declared.event.Point.{Point}
use Rattle.vs_match.specs.declared.arc_kind.ArcKind.{ArcKind}
use Rattle.vs_match.specs.declared.arc_kind.ArcKind.TheVariants.{Trip, Return}
use Rattle.vs_match.specs.declared.matching.Matching.{Matching}
use Rattle.vs_match.specs.Events.{ArePoints, place_at, line_at}
use Rattle.vs_match.specs.NetArcs.{IsArcOf, IsArcBefore}

-- the nodes and arcs, what each arc stands for, and the points that the nodes between the first and the last stand for
pub record LayerGraph : Type 0 where
  pub graph : Graph
  pub kinds : List ArcKind
  pub points : List Point

-- each arc has a kind, and each node a point but for the first and the last
pub record IsLabelled (n : LayerGraph) : Type 0 where
  pub each_arc : length n.kinds ≡ length n.graph.arcs
  pub each_node : n.graph.nodes ≡ length n.points + 2

abbrev pub arcs_in : LayerGraph → ℕ
arcs_in n = length n.graph.arcs

abbrev pub kind_at : List ArcKind → ℕ → ArcKind
kind_at kinds k = slice_index_or kinds k Return

abbrev pub kind_of : LayerGraph → ℕ → ArcKind
kind_of n k = kind_at n.kinds k

-- where and when a node is: None for the first, the last, and those of the depot line
abbrev pub place_of : LayerGraph → ℕ → Option Event
place_of n v = place_at n.points v

-- the minute of a node of the depot line: None for all others
abbrev pub line_of : LayerGraph → ℕ → Option ℕ
line_of n v = line_at n.points v

-- the net of layer l by this matching: its nodes are the layer's points between the depot's beginning and its end,
-- and its arcs those of the layer, in order, each once
pub record IsNetOf (p : Problem) (l : ℕ) (matching : Matching) (n : LayerGraph) : Type 0 where
  pub points : ArePoints p l n.points
  pub nodes : n.graph.nodes ≡ length n.points + 2
  pub kinds : length n.kinds ≡ length n.graph.arcs
  pub only : (k : ℕ) → k < length n.graph.arcs → IsArcOf p l matching n.points (kind_of n k) (arc_of n.graph k)
  pub every : (kind : ArcKind) (a : Arc) → IsArcOf p l matching n.points kind a
      → (k : ℕ) × (k < length n.graph.arcs) × (kind_of n k ≡ kind) × (arc_of n.graph k ≡ a)
  pub ordered : (j k : ℕ) → j < k → k < length n.graph.arcs
      → IsArcBefore (arc_of n.graph j) (kind_of n j) (arc_of n.graph k) (kind_of n k)

-- arc k is trip i's
abbrev pub IsArcOfTrip : List ArcKind → ℕ → ℕ → Type 0
IsArcOfTrip kinds i k = (k < length kinds) × (kind_at kinds k ≡ Trip (record { 0 = i }))
