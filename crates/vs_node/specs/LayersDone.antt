-- What layers run of trips that have one layer each, layer by layer.
use Rattle.std.specs.Prelude.{◌≡◌, ℕ, ◌*◌, ◌<◌, ◌≤◌, Bool, false, if◌then◌else◌, List, [], ◌∷◌, ◌++◌, length, map, All, slice_index_or, ℤ, pos, ◌-ℤ◌, ◌≤ℤ◌}
use Rattle.std.specs.List.{range_with_len}
use Rattle.vs_types.specs.declared.layer_set.LayerSet.{LayerSet}
use Rattle.vs_types.specs.LayerSet.{Has}
use Rattle.vs_instance.specs.Problem.{Problem}
use Rattle.vs_instance.specs.Ways.{layer_of}
use Rattle.vs_instance.specs.Blocks.{IsBlock}
use Rattle.vs_instance.specs.HoldingTable.{HoldsInLayer}
use Rattle.vs_instance.specs.Lagrangian.{total}
use Rattle.vs_instance.specs.Plan.{LayerBlock, plan_cost, times_run, vehicles_used}
use Rattle.vs_instance.specs.Restriction.{set_of, IsWithin}
use Rattle.vs_types.specs.Parts.{has}
use Rattle.vs_prices.specs.declared.table.Table.{Table}
use Rattle.vs_prices.specs.Table.{IsPrice, prices_in, vehicle_price}
use Rattle.vs_prices.specs.Worth.{fleet_price, trip_price}
use Rattle.vs_types.specs.declared.numbers.LayerNo.{LayerNo}
use Rattle.vs_layer.specs.declared.net.Flow.{Flow}
use Rattle.vs_layer.specs.Circulation.{flow_cost}
use Rattle.vs_match.specs.LayerGraph.{LayerGraph}
use Rattle.vs_circ.specs.declared.circ.LayerPrices.{LayerPrices}
use Rattle.vs_circ.specs.Circulations.{CoverExactly}
use Rattle.vs_circ.specs.LayerPrices.{AreHolding, shown_of_trips}

-- whether each trip has layer l in its set
abbrev pub must_in : List LayerSet → ℕ → List Bool
must_in sets l = map (λ set. has set l) sets

-- the table's prices hold in layer l
abbrev pub HoldsAt : Problem → Table → ℕ → Type 0
HoldsAt p table l =
    HoldsInLayer p l table.ray (prices_in p l table.into.items) (prices_in p l table.from.items) (vehicle_price table l)

-- what trip i pays in layer l, if it has to run there
abbrev pub due : Problem → List LayerSet → Table → ℕ → ℕ → ℤ
due p sets table l i = if slice_index_or (must_in sets l) i false then trip_price p table i l else pos 0

-- what the trips of layer l pay there, less what its vehicles pay
abbrev pub layer_value : Problem → List LayerSet → Table → ℕ → ℤ
layer_value p sets table l =
    total (map (due p sets table l) (range_with_len 0 (length p.trips))) -ℤ fleet_price p table l

-- a table of the first n layers
pub record IsOfFirst (p : Problem) (n : ℕ) (table : Table) : Type 0 where
  pub into_size : length table.into.items ≡ n * length p.trips
  pub from_size : length table.from.items ≡ n * length p.trips
  pub fleet_size : length table.fleet.items ≡ n
  pub into : All IsPrice table.into.items
  pub from : All IsPrice table.from.items
  pub fleet : All IsPrice table.fleet.items

-- prices of one layer, one for entering and one for leaving each trip
pub record AreSized (p : Problem) (prices : LayerPrices) : Type 0 where
  pub into_size : length prices.into.items ≡ length p.trips
  pub from_size : length prices.from.items ≡ length p.trips
  pub into : All IsPrice prices.into.items
  pub from : All IsPrice prices.from.items
  pub fleet : IsPrice prices.fleet

-- the prices stand behind those that were there
pub record StandBehind (old : Table) (prices : LayerPrices) (new : Table) : Type 0 where
  pub into : new.into.items ≡ old.into.items ++ prices.into.items
  pub from : new.from.items ≡ old.from.items ++ prices.from.items
  pub fleet : new.fleet.items ≡ old.fleet.items ++ prices.fleet ∷ []
  pub ray : new.ray ≡ old.ray

-- blocks of the first n layers that run each trip that has one of these in its set
pub record AreBlocksOfFirst (p : Problem) (sets : List LayerSet) (n : ℕ) (blocks : List LayerBlock) : Type 0 where
  pub each_block : All (λ b. IsBlock p b.0 b.1) blocks
  pub first : All (λ b. b.0.0 < n) blocks
  pub within : IsWithin sets blocks
  pub once : (i l : ℕ) → i < length p.trips → Has (set_of sets i) l → l < n → times_run blocks i ≡ 1
  pub fleet : (l : ℕ) → l < length p.layers → vehicles_used blocks l ≤ (layer_of p l).fleet

-- the first n layers: their prices, which hold, and their blocks, which cost no more than the prices show
pub record AreDone (p : Problem) (sets : List LayerSet) (n : ℕ) (table : Table)
    (blocks : List LayerBlock) : Type 0 where
  pub prices : IsOfFirst p n table
  pub costs : table.ray ≡ false
  pub holds : (l : ℕ) → l < n → HoldsAt p table l
  pub run : AreBlocksOfFirst p sets n blocks
  pub cost : pos (1000 * plan_cost p blocks) ≤ℤ total (map (layer_value p sets table) (range_with_len 0 n))

-- the flow of layer l's net runs exactly the trips that have the layer in their sets, at a cost that the prices show
pub record IsLayerRun (p : Problem) (sets : List LayerSet) (l : LayerNo) (n : LayerGraph) (flow : Flow)
    (prices : LayerPrices) : Type 0 where
  pub cover : CoverExactly n (must_in sets l.0) flow.units.items
  pub holding : AreHolding p l.0 false prices
  pub shown : shown_of_trips p l.0 false (must_in sets l.0) prices ≡ flow_cost n.graph flow.units.items

-- where in the table the prices of layer l stand, these do
pub record StandAt (p : Problem) (table : Table) (l : ℕ) (prices : LayerPrices) : Type 0 where
  pub into : prices_in p l table.into.items ≡ prices.into.items
  pub from : prices_in p l table.from.items ≡ prices.from.items
  pub fleet : vehicle_price table l ≡ prices.fleet

-- all these prices are 0
pub record AreNoPrices (prices : LayerPrices) : Type 0 where
  pub into : All (λ n. n ≡ pos 0) prices.into.items
  pub from : All (λ n. n ≡ pos 0) prices.from.items
  pub fleet : prices.fleet ≡ pos 0
