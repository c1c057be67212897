-- The prices of a layer that are made from the prices and leeways of its nodes.
use Rattle.std.specs.Prelude.{◌≡◌, ℕ, ◌<◌, List, length, slice_index, ℤ, pos, ◌-ℤ◌}
use Rattle.vs_layer.specs.Graph.{arc_of}
use Rattle.vs_instance.specs.HoldingTable.{price_of}
use Rattle.vs_match.specs.LayerGraph.{LayerGraph, IsArcOfTrip}
use Rattle.vs_path.specs.Residual.{price_at}
use Rattle.vs_circ.specs.declared.leeways.Side.{Side}
use Rattle.vs_circ.specs.declared.leeways.Side.TheVariants.{Leaving, Entering}
use Rattle.vs_circ.specs.declared.circ.LayerPrices.{LayerPrices}
use Rattle.vs_circ.specs.LayerPrices.{IsPrice}
use Rattle.vs_circ.specs.node_prices.Leeways.{passing, shifted}
use Rattle.vs_circ.specs.PricedFlows.{vehicle_price}

-- the price from which the prices for trips count: the depot's beginning, less what a vehicle pays
abbrev pub base_price : LayerGraph → List ℤ → ℤ
base_price n prices = price_at prices 0 -ℤ vehicle_price n prices

-- what is paid for entering or leaving trip i, by the node where it departs or arrives; 0 where it has no arc
pub record IsEntry (n : LayerGraph) (side : Side) (prices : List ℤ) (leeways : List ℕ) (i : ℕ) (entry : ℤ)
    : Type 0 where
  pub with_arc : (k : ℕ) → IsArcOfTrip n.kinds i k → let v = passing side (arc_of n.graph k) in
      entry ≡ shifted side (price_at prices v -ℤ base_price n prices) (slice_index leeways v)
  pub without : ((k : ℕ) → ¬ (IsArcOfTrip n.kinds i k)) → entry ≡ pos 0
  pub price : IsPrice entry

-- an entry for each of so many trips
pub record AreEntries (n : LayerGraph) (side : Side) (prices : List ℤ) (leeways : List ℕ) (trips : ℕ)
    (entries : List ℤ) : Type 0 where
  pub size : length entries ≡ trips
  pub each : (i : ℕ) → i < trips → IsEntry n side prices leeways i (price_of entries i)

-- the prices of a layer by prices of the nodes, with leeways for entering and for leaving trips
pub record IsTableOf (n : LayerGraph) (prices : List ℤ) (entering leaving : List ℕ) (trips : ℕ) (given : LayerPrices)
    : Type 0 where
  pub vehicle : given.fleet ≡ vehicle_price n prices
  pub into : AreEntries n Entering prices entering trips given.into.items
  pub from : AreEntries n Leaving prices leaving trips given.from.items
