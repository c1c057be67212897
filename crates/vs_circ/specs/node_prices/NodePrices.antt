-- Prices of the nodes of a layer's net.
use Rattle.std.specs.Prelude.{◌≡◌, ℕ, ◌<◌, Bool, false, if◌then◌else◌, List, length, ℤ, pos, ◌+ℤ◌, ◌≤ℤ◌}
use Rattle.vs_layer.specs.declared.arc.Arc.{Arc}
use Rattle.vs_layer.specs.Graph.{arc_of}
use Rattle.vs_match.specs.declared.arc_kind.ArcKind.{ArcKind}
use Rattle.vs_match.specs.declared.arc_kind.ArcKind.TheVariants.{Waiting, Deadhead, PullOut, PullIn, RestIn, RestWait, RestOut}
use Rattle.vs_match.specs.LayerGraph.{LayerGraph, kind_of}
use Rattle.vs_path.specs.Residual.{AllWithin, price_at}
use Rattle.vs_path.specs.Raising.{HasSpan}
use Rattle.vs_ship.specs.declared.gaps.TheConstants.{MAX_NODE_PRICE}

-- a vehicle moves without passengers: it waits, drives, leaves its depot or comes back, or goes there and rests
abbrev pub IsEmptyMove : ArcKind → Type 0
IsEmptyMove Waiting = Unit {0}
IsEmptyMove Deadhead = Unit {0}
IsEmptyMove PullOut = Unit {0}
IsEmptyMove PullIn = Unit {0}
IsEmptyMove RestIn = Unit {0}
IsEmptyMove RestWait = Unit {0}
IsEmptyMove RestOut = Unit {0}
IsEmptyMove _ = ⊥

-- what an arc costs; in a ray it counts nothing
abbrev pub arc_cost : Bool → Arc → ℤ
arc_cost ray a = if ray then pos 0 else a.cost

-- no empty move is worth more than it costs, from the price of the node that it leaves to that of the node that it
-- reaches
abbrev pub AreMovePrices : LayerGraph → Bool → List ℤ → Type 0
AreMovePrices n ray prices = (k : ℕ) → k < length n.graph.arcs → IsEmptyMove (kind_of n k)
    → price_at prices (arc_of n.graph k).to
    ≤ℤ (price_at prices (arc_of n.graph k).from +ℤ arc_cost ray (arc_of n.graph k))

-- a price for each node, none too great and no two too far apart, by which no empty move is worth more than it costs
pub record HasMovePrices (n : LayerGraph) (prices : List ℤ) : Type 0 where
  pub each_node : length prices ≡ n.graph.nodes
  pub within : AllWithin MAX_NODE_PRICE prices
  pub span : HasSpan MAX_NODE_PRICE prices
  pub moves : AreMovePrices n false prices
