-- A flow along a layer's net with prices of the nodes at which nobody gains by another one.
use Rattle.std.specs.Prelude.{◌≡◌, ℕ, ◌-◌, ◌<◌, ◌≤◌, Bool, if◌then◌else◌, true, List, length, map, slice_index, slice_index_or, false, Option, Some, ℤ, pos, ◌+ℤ◌, ◌-ℤ◌, ◌*ℤ◌, ◌≤ℤ◌, ◌<ℤ◌}
use Rattle.std.specs.Int.{int_max}
use Rattle.vs_layer.specs.Graph.{arc_of}
use Rattle.vs_instance.specs.HoldingTable.{price_of}
use Rattle.vs_match.specs.declared.arc_kind.ArcKind.{ArcKind}
use Rattle.vs_match.specs.declared.arc_kind.ArcKind.TheVariants.{Trip}
use Rattle.vs_match.specs.LayerGraph.{LayerGraph, IsArcOfTrip, kind_of}
use Rattle.vs_match.specs.Decomposition.{vehicles_of}
use Rattle.vs_path.specs.Residual.{price_at}
use Rattle.vs_circ.specs.declared.circ.LayerPrices.{LayerPrices}
use Rattle.vs_ship.specs.Balance.{gained}
use Rattle.vs_circ.specs.node_prices.NodePrices.{AreMovePrices, IsEmptyMove}
use Rattle.vs_circ.specs.Offers.{offer_of}

abbrev pub last_arc : LayerGraph → ℕ
last_arc n = length n.graph.arcs - 1

abbrev pub end_node : LayerGraph → ℕ
end_node n = n.graph.nodes - 1

-- Nothing is left at any node, no trip is run twice, and no more vehicles are used than there are. Empty moves that
-- are made are worth what they cost. A vehicle that is left is worth nothing, and one that is used is worth no less
-- than nothing.
pub record IsPricedFlow (n : LayerGraph) (units : List ℕ) (prices : List ℤ) : Type 0 where
  pub each_arc : length units ≡ length n.graph.arcs
  pub balanced : (weight : ℕ → ℤ) → gained weight n.graph.arcs units ≡ pos 0
  pub once : (i k : ℕ) → IsArcOfTrip n.kinds i k → slice_index units k ≤ 1
  pub fleet : vehicles_of n units ≤ (arc_of n.graph (last_arc n)).room
  pub moves : AreMovePrices n false prices
  pub tight : (k : ℕ) → k < length n.graph.arcs → IsEmptyMove (kind_of n k) → 0 < slice_index units k
      → price_at prices (arc_of n.graph k).to ≡ price_at prices (arc_of n.graph k).from +ℤ (arc_of n.graph k).cost
  pub left : vehicles_of n units < (arc_of n.graph (last_arc n)).room
      → price_at prices 0 ≤ℤ price_at prices (end_node n)
  pub used : 0 < vehicles_of n units → price_at prices (end_node n) ≤ℤ price_at prices 0

-- what running trip i's arc k costs beyond what it brings, from node to node
abbrev pub arc_pays : LayerGraph → List ℤ → ℕ → ℤ
arc_pays n prices k = ((arc_of n.graph k).cost +ℤ price_at prices (arc_of n.graph k).from)
    -ℤ price_at prices (arc_of n.graph k).to

-- a trip that runs is offered for no less than it pays, and one that is offered and doesn't run for no more
pub record KeepsOffers (n : LayerGraph) (offers : List (Option ℤ)) (units : List ℕ) (prices : List ℤ) : Type 0 where
  pub runs : (i k : ℕ) → IsArcOfTrip n.kinds i k → 0 < slice_index units k
      → (m : ℤ) × (offer_of offers i ≡ Some m) × (arc_pays n prices k ≤ℤ m)
  pub rests : (i k : ℕ) (m : ℤ) → IsArcOfTrip n.kinds i k → slice_index units k ≡ 0 → offer_of offers i ≡ Some m
      → m ≤ℤ arc_pays n prices k

-- what a vehicle pays by the prices of the nodes: what lacks at the depot's end, or nothing
abbrev pub vehicle_price : LayerGraph → List ℤ → ℤ
vehicle_price n prices = int_max (pos 0) (price_at prices 0 -ℤ price_at prices (end_node n))

-- the layer's prices let each trip pay no less than those of the nodes that its arc joins, and a vehicle the same
pub record PaysNoLess (n : LayerGraph) (trips : ℕ) (prices : List ℤ) (given : LayerPrices) : Type 0 where
  pub vehicle : given.fleet ≡ vehicle_price n prices
  pub each_trip : (i k : ℕ) → i < trips → IsArcOfTrip n.kinds i k
      → (price_at prices (arc_of n.graph k).from -ℤ price_at prices (arc_of n.graph k).to)
      ≤ℤ (price_of given.into.items i -ℤ price_of given.from.items i)

-- a unit on the arc of each trip that has to run, and none on any other arc
abbrev pub must_on : List Bool → ArcKind → ℕ
must_on must (Trip i) = if slice_index_or must i.0 false then 1 else 0
must_on must _ = 0

abbrev pub must_units : LayerGraph → List Bool → List ℕ
must_units n must = map (must_on must) n.kinds

-- Nodes that units are stuck at: more is supplied to them by the trips that have to run than leaves them, though no
-- empty move leaves them, and every vehicle is used where the depot's end is among them and its beginning isn't. Here a
-- node has the price -1 where it is one of them, else 0.
pub record IsStuckAt (n : LayerGraph) (must : List Bool) (prices : List ℤ) : Type 0 where
  pub moves : AreMovePrices n true prices
  pub more : (vehicle_price n prices *ℤ pos (arc_of n.graph (last_arc n)).room)
      <ℤ (pos 0 -ℤ gained (price_at prices) n.graph.arcs (must_units n must))
