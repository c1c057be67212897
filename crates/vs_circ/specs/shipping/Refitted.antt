-- Shipments that an earlier call settled, made ready for other offers trip by trip.
use Rattle.std.specs.Prelude.{◌≡◌, ℕ, ◌+◌, ◌*◌, ◌<◌, ◌≤◌, List, length, set, slice_index, Option, ℤ, pos}
use Rattle.vs_layer.specs.declared.arc.Arc.{Arc}
use Rattle.vs_layer.specs.Graph.{Graph, arc_of}
use Rattle.vs_match.specs.LayerGraph.{LayerGraph, IsArcOfTrip, kind_of}
use Rattle.vs_path.specs.declared.residual.Costs.{Costs}
use Rattle.vs_path.specs.Residual.{AllWithin, price_at}
use Rattle.vs_ship.specs.declared.shipment.Shipment.{Shipment}
use Rattle.vs_ship.specs.declared.shipment.TheConstants.{MAX_FIRST_PRICE}
use Rattle.vs_ship.specs.Leaving.{IsLeftBy}
use Rattle.vs_ship.specs.Shipments.{IsSized}
use Rattle.vs_ship.specs.Suiting.{DoSuit, worth_less}
use Rattle.vs_circ.specs.shipping.Prepared.{AreOfferedCosts, AreOfferedRooms, offered_cost, offered_room}
use Rattle.vs_circ.specs.shipping.Settled.{IsSettled}

-- units and prices that an earlier call settled, whatever trips were offered then
pub record WasSettled (n : LayerGraph) (units : List ℕ) (prices : List ℤ) : Type 0 where
  pub offers : List (Option ℤ)
  pub shipment : Shipment
  pub settled : IsSettled n offers shipment
  pub units_are : shipment.flow.units.items ≡ units
  pub prices_are : shipment.prices.items ≡ prices

-- the arcs cost and take what they do where some trips are offered
pub record AreForOffers (n : LayerGraph) (costs : Costs) : Type 0 where
  pub offers : List (Option ℤ)
  pub cost : AreOfferedCosts n offers costs.cost.items
  pub room : AreOfferedRooms n offers costs.room.items

-- an arc costs and takes what the offers say, and carries units that suit it
pub record IsFitted (n : LayerGraph) (offers : List (Option ℤ)) (s : Shipment) (k : ℕ) : Type 0 where
  pub cost : price_at s.costs.cost.items k ≡ offered_cost offers (kind_of n k) (arc_of n.graph k)
  pub room : slice_index s.costs.room.items k ≡ offered_room offers (kind_of n k) (arc_of n.graph k)
  pub suits : DoSuit (worth_less n.graph s.costs.cost.items s.prices.items k) (slice_index s.costs.room.items k)
      (arc_of n.graph k).room (slice_index s.flow.units.items k)

-- the arc is no trip's, or that of one of the first so many trips
abbrev pub IsOfFirst : LayerGraph → ℕ → ℕ → Type 0
IsOfFirst n count k = (i : ℕ) → IsArcOfTrip n.kinds i k → i < count

-- the arc that leads the other way
abbrev pub reversed : Arc → Arc
reversed a = record { from = a.to; to = a.from; cost = a.cost; room = a.room }

-- No surplus is farther from 0 than the first so many trips can have left it, each of which moves a unit at most onto
-- its arc and one from it.
abbrev pub AreFewMoved : ℕ → List ℤ → Type 0
AreFewMoved count surplus = AllWithin (pos (4 * count)) surplus

-- The arcs of all but the trips past the first so many are fitted, and what the units leave lies at the nodes. The arcs
-- of the other trips carry a unit at most.
pub record AreRefitted (n : LayerGraph) (offers : List (Option ℤ)) (count : ℕ) (s : Shipment) : Type 0 where
  pub sized : IsSized n.graph s
  pub prices : AllWithin MAX_FIRST_PRICE s.prices.items
  pub fitted : (k : ℕ) → k < length n.graph.arcs → IsOfFirst n count k → IsFitted n offers s k
  pub others : (i k : ℕ) → count ≤ i → IsArcOfTrip n.kinds i k → slice_index s.flow.units.items k ≤ 1
  pub left : IsLeftBy n.graph s.flow.units.items s.surplus.items
  pub moved : AreFewMoved count s.surplus.items

-- what a trip more moves
abbrev pub IsMovedOnce : List ℤ → List ℤ → Type 0
IsMovedOnce old new = (count : ℕ) → AreFewMoved count old → AreFewMoved (count + 1) new

-- an arc costs and takes so much and carries units that suit it; the others, and the prices, are as before
pub record IsRefittedAt (g : Graph) (k : ℕ) (cost : ℤ) (room : ℕ) (old new : Shipment) : Type 0 where
  pub units : ℕ
  pub suits : DoSuit (worth_less g new.costs.cost.items new.prices.items k) room (arc_of g k).room units
  pub units_are : new.flow.units.items ≡ set old.flow.units.items k units
  pub cost_is : new.costs.cost.items ≡ set old.costs.cost.items k cost
  pub room_is : new.costs.room.items ≡ set old.costs.room.items k room
  pub prices_are : new.prices.items ≡ old.prices.items
  pub left : IsLeftBy g new.flow.units.items new.surplus.items
  pub moved : IsMovedOnce old.surplus.items new.surplus.items
