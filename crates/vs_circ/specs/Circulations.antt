-- What the calls on a layer's net answer, said of blocks.
use Rattle.std.specs.Prelude.{◌≡◌, ℕ, ◌*◌, ◌<◌, ◌↔◌, Bool, true, false, List, [], ◌∷◌, length, Option, slice_index, slice_index_or, ℤ, pos, ◌+ℤ◌, ◌-ℤ◌, ◌*ℤ◌, ◌≤ℤ◌, ◌<ℤ◌}
use Rattle.vs_types.specs.declared.numbers.LayerNo.{LayerNo}
use Rattle.vs_layer.specs.Circulation.{IsCirculation, flow_cost}
use Rattle.vs_instance.specs.Problem.{Problem}
use Rattle.vs_instance.specs.Plan.{LayerBlock, plan_cost, times_run}
use Rattle.vs_instance.specs.Lagrangian.{AreBlocksOf, IsLowOf, multiplier_of}
use Rattle.vs_match.specs.declared.arc_kind.ArcKind.{ArcKind}
use Rattle.vs_match.specs.declared.arc_kind.ArcKind.TheVariants.{Trip}
use Rattle.vs_match.specs.LayerGraph.{LayerGraph, IsArcOfTrip}
use Rattle.vs_circ.specs.declared.circ.Circ.{Circ}
use Rattle.vs_circ.specs.declared.circ.FixedFlow.{FixedFlow}
use Rattle.vs_circ.specs.declared.circ.FixedFlow.TheVariants.{Covered, Short}
use Rattle.vs_circ.specs.Offers.{IsOffered, MustRun, multipliers_of}
use Rattle.vs_circ.specs.LayerPrices.{AreHolding, shown_of_offers, shown_of_trips}

-- what a trip's arc is paid for a unit, nothing on any other arc
abbrev pub paid_on : List ℤ → ArcKind → ℤ
paid_on multipliers (Trip i) = multiplier_of multipliers i.0
paid_on multipliers _ = pos 0

-- the multipliers of the trips that the units run
abbrev pub paid_by_units : List ℤ → List ArcKind → List ℕ → ℤ
paid_by_units multipliers [] units = pos 0
paid_by_units multipliers (kind ∷ kinds) [] = pos 0
paid_by_units multipliers (kind ∷ kinds) (n ∷ units) =
    (paid_on multipliers kind *ℤ pos n) +ℤ paid_by_units multipliers kinds units

-- the units run trip i
abbrev pub RunTrip : LayerGraph → List ℕ → ℕ → Type 0
RunTrip n units i = (k : ℕ) × IsArcOfTrip n.kinds i k × (0 < slice_index units k)

-- A circulation of offered trips, whose value is its cost less their multipliers. No blocks of offered trips have a
-- lower reduced cost, and some have that.
pub record IsLeastFlow (p : Problem) (l : LayerNo) (n : LayerGraph) (offers : List (Option ℤ)) (units : List ℕ)
    (value : ℤ) : Type 0 where
  pub circulation : IsCirculation n.graph units
  pub offered : (i : ℕ) → RunTrip n units i → IsOffered offers i
  pub value_is : value ≡ flow_cost n.graph units -ℤ paid_by_units (multipliers_of offers) n.kinds units
  pub low : IsLowOf p l (IsOffered offers) (multipliers_of offers) value

-- such a circulation with prices, which hold and show its value
pub record IsLeastCirculation (p : Problem) (l : LayerNo) (n : LayerGraph) (offers : List (Option ℤ)) (c : Circ) :
    Type 0 where
  pub least : IsLeastFlow p l n offers c.flow.units.items c.value
  pub holding : AreHolding p l.0 false c.prices
  pub shows : shown_of_offers p l.0 offers c.prices ≡ c.value

-- exactly the trips marked true run in one such circulation, which costs this
pub record RunLeast (p : Problem) (l : LayerNo) (n : LayerGraph) (offers : List (Option ℤ)) (marked : List Bool)
    (cost : ℤ) : Type 0 where
  pub units : List ℕ
  pub value : ℤ
  pub least : IsLeastFlow p l n offers units value
  pub cost_is : cost ≡ flow_cost n.graph units
  pub runs : (i : ℕ) → (slice_index_or marked i false ≡ true) ↔ RunTrip n units i

-- the blocks run exactly the trips that have to run
pub record RunExactly (p : Problem) (l : LayerNo) (must : List Bool) (blocks : List LayerBlock) : Type 0 where
  pub are_blocks : AreBlocksOf p l (MustRun must) blocks
  pub each : (i : ℕ) → i < length p.trips → MustRun must i → times_run blocks i ≡ 1

-- the circulation runs exactly the trips that have to run
pub record CoverExactly (n : LayerGraph) (must : List Bool) (units : List ℕ) : Type 0 where
  pub circulation : IsCirculation n.graph units
  pub only : (i : ℕ) → RunTrip n units i → MustRun must i
  pub each : (i : ℕ) → MustRun must i → RunTrip n units i

-- Covered: a circulation that runs exactly these trips at the cost; neither a circulation nor blocks that do so cost
-- less; the prices hold, and show so. Short: there is neither such a circulation nor such blocks, as the prices show,
-- which hold as a ray.
abbrev pub IsFixed : Problem → LayerNo → LayerGraph → List Bool → FixedFlow → Type 0
IsFixed p l n must (Covered flow prices cost) =
    CoverExactly n must flow.units.items
    × (cost ≡ flow_cost n.graph flow.units.items)
    × ((units : List ℕ) → CoverExactly n must units → cost ≤ℤ flow_cost n.graph units)
    × ((blocks : List LayerBlock) → RunExactly p l must blocks → cost ≤ℤ pos (1000 * plan_cost p blocks))
    × AreHolding p l.0 false prices
    × (shown_of_trips p l.0 false must prices ≡ cost)
IsFixed p l n must (Short prices) =
    ((units : List ℕ) → ¬ (CoverExactly n must units))
    × ((blocks : List LayerBlock) → ¬ (RunExactly p l must blocks))
    × AreHolding p l.0 true prices
    × (pos 0 <ℤ shown_of_trips p l.0 true must prices)
