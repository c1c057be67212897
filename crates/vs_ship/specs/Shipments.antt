-- Units on their way from nodes with a surplus to nodes with a lack (the transshipment problem: Ahuja, Magnanti and
-- Orlin, Network Flows, 1993, chapter 9).
use Rattle.std.specs.Prelude.{◌≡◌, ◌≢◌, ℕ, ◌+◌, ◌^◌, ◌%◌, ◌<◌, ◌≤◌, List, length, map, set, slice_index, ℤ, pos, ◌+ℤ◌, ◌-ℤ◌, ◌≤ℤ◌, ◌<ℤ◌, true}
use Rattle.std.specs.Int.{int_max}
use Rattle.vs_layer.specs.declared.arc.Arc.{Arc}
use Rattle.vs_layer.specs.Graph.{Graph}
use Rattle.vs_instance.specs.Lagrangian.{total}
use Rattle.vs_path.specs.declared.residual.TheConstants.{MAX_SEARCH_NODES, MAX_SEARCH_PRICE}
use Rattle.vs_path.specs.StepCosts.{most_step}
use Rattle.vs_path.specs.declared.loads.Loads.{Loads}
use Rattle.vs_queue.specs.declared.step.Step.{Step}
use Rattle.vs_queue.specs.declared.step.Step.TheVariants.{Forward, Back}
use Rattle.vs_path.specs.Residual.{ResidualNet, HasSignRule, IsWithin, AllWithin, price_at, step_in}
use Rattle.vs_path.specs.Labels.{Lacks}
use Rattle.vs_path.specs.Loads.{AreByNode, IsListed, lists_in}
use Rattle.vs_path.specs.Search.{IsCut}
use Rattle.vs_ship.specs.declared.shipment.Shipment.{Shipment}
use Rattle.vs_ship.specs.declared.shipment.TheConstants.{MAX_FIRST_PRICE}
use Rattle.vs_ship.specs.Balance.{IsBalanced, gained, steps_gain}

-- the net with the units, costs and rooms of the shipment
abbrev pub residual_of : Graph → Shipment → ResidualNet
residual_of g s = record {
  graph = g;
  units = s.flow.units.items;
  cost = s.costs.cost.items;
  room = s.costs.room.items;
  arcs = length g.arcs;
}

-- a number for each arc and for each node
pub record IsSized (g : Graph) (s : Shipment) : Type 0 where
  pub units : length s.flow.units.items ≡ length g.arcs
  pub cost : length s.costs.cost.items ≡ length g.arcs
  pub room : length s.costs.room.items ≡ length g.arcs
  pub prices : length s.prices.items ≡ g.nodes
  pub surplus : length s.surplus.items ≡ g.nodes

abbrev pub AreInRoom : Graph → Shipment → Type 0
AreInRoom g s =
    (k : ℕ) → k < length g.arcs → slice_index s.flow.units.items k ≤ slice_index s.costs.room.items k

-- what the nodes have too much, added up
abbrev pub excess : List ℤ → ℤ
excess surplus = total (map (int_max (pos 0)) surplus)

-- A shipment from which units can be sent: no step gains anything by the prices, no arc carries more than it has room
-- for, the numbers are small, and the nodes lack as much as others have too much. Prices are smaller where units lack.
pub record CanShip (g : Graph) (s : Shipment) : Type 0 where
  pub sized : IsSized g s
  pub nodes : g.nodes ≤ MAX_SEARCH_NODES
  pub costs : AllWithin (pos (most_step g.nodes)) s.costs.cost.items
  pub rooms : (k : ℕ) → slice_index s.costs.room.items k < 2 ^ 32
  pub prices : AllWithin MAX_SEARCH_PRICE s.prices.items
  pub first : (v : ℕ) → Lacks s.surplus.items v → IsWithin MAX_FIRST_PRICE (price_at s.prices.items v)
  pub signs : HasSignRule (residual_of g s) s.prices.items
  pub in_room : AreInRoom g s
  pub even : total s.surplus.items ≡ pos 0

-- Units were sent along arcs, and more can be: the balance is kept for whatever was supplied, no arc carries more than
-- before but for units that were sent, prices only fell, and nothing came to a node for good.
pub record Ships (g : Graph) (old new : Shipment) : Type 0 where
  pub can : CanShip g new
  pub same_costs : new.costs ≡ old.costs
  pub balanced : (supply : List ℤ) → IsBalanced g supply old.flow.units.items old.surplus.items
      → IsBalanced g supply new.flow.units.items new.surplus.items
  pub few : (k : ℕ) → k < length g.arcs
      → (pos (slice_index new.flow.units.items k) +ℤ excess new.surplus.items)
      ≤ℤ (pos (slice_index old.flow.units.items k) +ℤ excess old.surplus.items)
  pub fell : (v : ℕ) → price_at new.prices.items v ≤ℤ price_at old.prices.items v
  pub none_left : (v : ℕ) → price_at old.surplus.items v ≤ℤ pos 0 → price_at new.surplus.items v ≤ℤ pos 0

-- the surplus once a unit went from the source to the goal
abbrev pub after_unit : List ℤ → ℕ → ℕ → List ℤ
after_unit surplus source goal =
    let left : List ℤ = set surplus source (price_at surplus source -ℤ pos 1) in
    set left goal (price_at left goal +ℤ pos 1)

-- the source has one unit less
abbrev pub IsOneLess : List ℤ → List ℤ → ℕ → Type 0
IsOneLess old new source = price_at new source ≡ price_at old source -ℤ pos 1

-- units are left at the source, and these nodes, which it is among, keep them
pub record IsStuck (g : Graph) (s : Shipment) (source : ℕ) (nodes : List ℕ) : Type 0 where
  pub left : pos 0 <ℤ price_at s.surplus.items source
  pub cut : IsCut (residual_of g s) s.surplus.items source nodes

-- nothing is left at the node and at those that lie a number of strides after it
abbrev pub HasNoneFrom : ℕ → ℕ → List ℤ → Type 0
HasNoneFrom stride first surplus = (v : ℕ) → v % stride ≡ first → price_at surplus v ≤ℤ pos 0

-- nothing is left anywhere, and nothing lacks
abbrev pub IsDrained : List ℤ → Type 0
IsDrained surplus = (v : ℕ) → price_at surplus v ≡ pos 0

-- a unit can be put on the arc of a step forward, and taken from that of a step back
abbrev pub CanTake : List ℕ → Step → Type 0
CanTake units (Forward k) = (k < length units) × (slice_index units k + 1 < 2 ^ 32)
CanTake units (Back k) = (k < length units) × (0 < slice_index units k)

-- a unit can take all these steps, each of them once
pub record CanTakeAll (units : List ℕ) (path : List Step) : Type 0 where
  pub each : (i : ℕ) → i < length path → CanTake units (step_in path i)
  pub apart : (i j : ℕ) → i < j → j < length path → step_in path i ≢ step_in path j

-- among the first so many steps is this one
abbrev pub IsAmong : List Step → ℕ → Step → Type 0
IsAmong path count s = (i : ℕ) × (i < count) × (step_in path i ≡ s)

-- The arcs carry what they carried, but for a unit more on the arcs of some of the first so many steps forward, and
-- fewer units on those of some of the steps back.
pub record IsSentAlong (old new : List ℕ) (path : List Step) (count : ℕ) : Type 0 where
  pub each_arc : length new ≡ length old
  pub one : (k : ℕ) → slice_index new k ≤ slice_index old k + 1
  pub more : (k : ℕ) → slice_index old k < slice_index new k → IsAmong path count (Forward k)
  pub less : (k : ℕ) → slice_index new k < slice_index old k → IsAmong path count (Back k)

-- what the units gain by going along the steps is what a unit gains along them
abbrev pub GainAlong : List ℕ → List ℕ → List Step → Type 0
GainAlong old new path = (weight : ℕ → ℤ) (arcs : List Arc) → length old ≡ length arcs
    → gained weight arcs new ≡ gained weight arcs old +ℤ steps_gain weight arcs path

-- the arcs of the first so many steps forward are listed too
pub record AreListedToo (g : Graph) (old new : Loads) (path : List Step) (count : ℕ) : Type 0 where
  pub by_node : AreByNode g (lists_in new)
  pub kept : (k : ℕ) → IsListed g (lists_in old) k → IsListed g (lists_in new) k
  pub complete : new.complete ≡ true → old.complete ≡ true
  pub listed : new.complete ≡ true → (i k : ℕ) → i < count → step_in path i ≡ Forward k → IsListed g (lists_in new) k
