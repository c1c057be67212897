-- What is kept for a net from one call to the next.
use Rattle.std.specs.Prelude.{◌≡◌, ◌≢◌, ℕ, ◌<◌, ◌≤◌, List, length, Some, slice_get, false}
use Rattle.vs_layer.specs.Graph.{Graph}
use Rattle.vs_ship.specs.declared.space.Space.{Space}
use Rattle.vs_ship.specs.declared.start.Start.{Start}
use Rattle.vs_ship.specs.declared.work.Kept.{Kept}
use Rattle.vs_ship.specs.declared.work.Work.{Work}
use Rattle.vs_match.specs.LayerGraph.{LayerGraph}
use Rattle.vs_path.specs.Loads.{lists_in}
use Rattle.vs_ship.specs.Mirror.{IsMirror}
use Rattle.vs_ship.specs.Shipments.{IsSized}

-- it has numbers for so many nodes
pub record IsSpaceFor (nodes : ℕ) (space : Space) : Type 0 where
  pub prices : length space.prices.items ≡ nodes
  pub turned : length space.turned.items ≡ nodes
  pub low : length space.low.items ≡ nodes
  pub entering : length space.entering.items ≡ nodes
  pub leaving : length space.leaving.items ≡ nodes

-- it has a number for each arc and each node of the net
pub record IsStartFor (g : Graph) (start : Start) : Type 0 where
  pub units : length start.units.items ≡ length g.arcs
  pub prices : length start.prices.items ≡ g.nodes

-- the shipment and the start have a number for each arc and each node of the net, so have the search and the space, and
-- the arcs that carry units have a list for each node
pub record IsReadyFor (g : Graph) (kept : Kept) : Type 0 where
  pub sized : IsSized g kept.shipment
  pub before : IsStartFor g kept.before
  pub nodes : kept.search.nodes ≡ g.nodes
  pub lists : length (lists_in kept.loads) ≡ g.nodes
  pub space : IsSpaceFor g.nodes kept.space

-- and the mirror is the net's
pub record IsKeptFor (g : Graph) (kept : Kept) : Type 0 where
  pub ready : IsReadyFor g kept
  pub mirror : IsMirror g kept.mirror

-- For each net, in order, something is kept at its place, and nothing is kept but that.
pub record IsMadeFor (nets : List LayerGraph) (work : Work) : Type 0 where
  pub size : length work.kept.items ≡ length nets
  pub each : (i : ℕ) (n : LayerGraph) (k : Kept) → i < length nets → slice_get nets i ≡ Some n
      → slice_get work.kept.items i ≡ Some k → IsKeptFor n.graph k

-- what stands at this place may be used for the net
pub record IsReadyAt (g : Graph) (kept : List Kept) (place : ℕ) : Type 0 where
  pub within : place < length kept
  pub each : (k : Kept) → slice_get kept place ≡ Some k → IsReadyFor g k

-- of no units and prices it is known that a call settled them
pub record IsUnsettled (kept : Kept) : Type 0 where
  pub now : kept.is_settled ≡ false
  pub before : kept.was_settled ≡ false

-- What stands at this place may be used for the net, and nothing is known of its units and prices. At the other places
-- stands what stood there.
pub record IsRenewedAt (g : Graph) (old new : List Kept) (place : ℕ) : Type 0 where
  pub ready : IsReadyAt g new place
  pub size : length old ≤ length new
  pub unsettled : (k : Kept) → slice_get new place ≡ Some k → IsUnsettled k
  pub others : (i : ℕ) → i < length old → i ≢ place → slice_get new i ≡ slice_get old i
