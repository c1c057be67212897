-- Shipments that supply the trips that have to run.
use Rattle.std.specs.Prelude.{◌≡◌, ◌⊎◌, ℕ, ◌<◌, ◌≤◌, Bool, List, [], length, slice_index, ℤ, pos, neg_ℤ, ◌+ℤ◌, ◌≤ℤ◌}
use Rattle.vs_instance.specs.declared.limits.TheConstants.{MAX_TRIPS}
use Rattle.vs_match.specs.LayerGraph.{LayerGraph, kind_of}
use Rattle.vs_path.specs.Residual.{price_at}
use Rattle.vs_path.specs.Search.{IsIn}
use Rattle.vs_ship.specs.declared.shipment.Shipment.{Shipment}
use Rattle.vs_ship.specs.Balance.{IsBalanced, gained, weighed}
use Rattle.vs_circ.specs.shipping.Prepared.{AreOfferedCosts, AreOfferedRooms}
use Rattle.vs_circ.specs.PricedFlows.{must_on, must_units}
use Rattle.vs_ship.specs.Shipments.{CanShip, IsStuck, excess}

-- Units can be sent that the trips that have to run leave at the nodes. No trip is offered, and no arc can come to
-- carry more units than there are trips.
pub record IsSupplied (n : LayerGraph) (must : List Bool) (s : Shipment) : Type 0 where
  pub can : CanShip n.graph s
  pub cost : AreOfferedCosts n [] s.costs.cost.items
  pub room : AreOfferedRooms n [] s.costs.room.items
  pub supply : List ℤ
  pub supply_is : (weight : ℕ → ℤ) → weighed weight supply ≡ gained weight n.graph.arcs (must_units n must)
  pub balanced : IsBalanced n.graph supply s.flow.units.items s.surplus.items
  pub few : (k : ℕ) → k < length n.graph.arcs
      → (pos (slice_index s.flow.units.items k) +ℤ excess s.surplus.items) ≤ℤ pos MAX_TRIPS

-- some of these units are stuck at these nodes
pub record HasStuckUnits (n : LayerGraph) (must : List Bool) (nodes : List ℕ) : Type 0 where
  pub shipment : Shipment
  pub supplied : IsSupplied n must shipment
  pub source : ℕ
  pub stuck : IsStuck n.graph shipment source nodes

-- the price -1 at each of these nodes, and 0 elsewhere
pub record AreStuckPrices (nodes : List ℕ) (prices : List ℤ) : Type 0 where
  pub stuck : (i : ℕ) → i < length nodes → price_at prices (slice_index nodes i) ≡ neg_ℤ (pos 1)
  pub others : (v : ℕ) → ¬ (IsIn nodes v) → price_at prices v ≡ pos 0

-- one of two numbers, and no less than the other
pub record IsGreater (a b n : ℕ) : Type 0 where
  pub first : a ≤ n
  pub second : b ≤ n
  pub one : (n ≡ a) ⊎ (n ≡ b)

-- each arc carries as many units as before, and that of a trip that has to run at least one
pub record AreRun (n : LayerGraph) (must : List Bool) (old new : List ℕ) : Type 0 where
  pub each_arc : length new ≡ length n.graph.arcs
  pub each : (k : ℕ) → k < length n.graph.arcs
      → IsGreater (slice_index old k) (must_on must (kind_of n k)) (slice_index new k)
