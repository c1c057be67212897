-- What holds of every problem: of its Lagrangian values, and of rests.
use Rattle.std.specs.Prelude.{◌≡◌, ℕ, ◌*◌, ◌≤◌, List, length, ℤ, pos, ◌≤ℤ◌}
use Rattle.vs_types.specs.declared.layer_set.LayerSet.{LayerSet}
use Rattle.vs_instance.specs.declared.layer.Layer.{Layer}
use Rattle.vs_instance.specs.declared.limits.TheConstants.{USUAL_TRIPS}
use Rattle.vs_instance.specs.Problem.{Problem}
use Rattle.vs_instance.specs.Instance.{IsInstance, IsLayer, IsPayable}
use Rattle.vs_instance.specs.Ways.{Connects, Rests}
use Rattle.vs_instance.specs.Lagrangian.{IsLagrangianValue, IsStartingValue}
use Rattle.vs_instance.specs.Plan.{LayerBlock, IsPlan, plan_cost}
use Rattle.vs_instance.specs.Restriction.{IsWithin}

-- with a multiplier for each trip: each plan within the sets costs at least the value, in 1/1000 of a cost unit
abbrev pub LagrangianValuesBoundPlans : Type 0
LagrangianValuesBoundPlans =
    (p : Problem) (sets : List LayerSet) (multipliers : List ℤ) (value : ℤ)
    → length multipliers ≡ length p.trips
    → IsLagrangianValue p sets multipliers value
    → (blocks : List LayerBlock) → IsPlan p blocks → IsWithin sets blocks
    → value ≤ℤ pos (1000 * plan_cost p blocks)

-- there is a value for all sets and multipliers
abbrev pub LagrangianValuesExist : Type 0
LagrangianValuesExist =
    (p : Problem) (sets : List LayerSet) (multipliers : List ℤ)
    → (value : ℤ) × IsLagrangianValue p sets multipliers value

-- there is a value at the starting multipliers
abbrev pub StartingValuesExist : Type 0
StartingValuesExist = (p : Problem) → (value : ℤ) × IsStartingValue p value

-- in an instance, who rests in the depot before a trip could have gone there straight
abbrev pub RestsConnect : Type 0
RestsConnect = (p : Problem) → IsInstance p → (l i j : ℕ) → Rests p l i j → Connects p i j

-- a layer within the limits is payable for as many trips as a text of version 1 or 2 has at most
abbrev pub UsualInstancesArePayable : Type 0
UsualInstancesArePayable =
    (p : Problem) (layer : Layer) (trips : ℕ) → IsLayer p layer → trips ≤ USUAL_TRIPS → IsPayable trips layer
