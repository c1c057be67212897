-- What prices that hold show, however they were found.
use Rattle.std.specs.Prelude.{List}
use Rattle.vs_types.specs.declared.layer_set.LayerSet.{LayerSet}
use Rattle.vs_instance.specs.Problem.{Problem}
use Rattle.vs_instance.specs.Instance.{IsInstance}
use Rattle.vs_instance.specs.Restriction.{IsRestriction}
use Rattle.vs_prices.specs.declared.bound.Bound.{Bound}
use Rattle.vs_prices.specs.declared.table.Table.{Table}
use Rattle.vs_prices.specs.Table.{Fits, HoldingTable}
use Rattle.vs_prices.specs.Rays.{IsAlsoRay}
use Rattle.vs_prices.specs.Worth.{IsWorth, BoundsPlans}

-- in every instance, a table that fits and holds bounds the plans within any restriction by what it is worth there
abbrev pub PricesBoundPlans : Type 0
PricesBoundPlans =
    (p : Problem) (sets : List LayerSet) (table : Table) (bound : Bound) → IsInstance p → IsRestriction p sets
    → Fits p table → HoldingTable p table → IsWorth p sets table bound → BoundsPlans p sets bound

-- of every problem, the tables of the problem without rates are its rays
abbrev pub UnratedTablesAreRays : Type 0
UnratedTablesAreRays = (p : Problem) (table : Table) → IsAlsoRay p table
