-- Tables that show that there is no plan.
use Rattle.std.specs.Prelude.{List}
use Rattle.vs_types.specs.declared.layer_set.LayerSet.{LayerSet}
use Rattle.vs_instance.specs.Problem.{Problem}
use Rattle.vs_prices.specs.declared.bound.Bound.TheVariants.{NoPlan}
use Rattle.vs_prices.specs.declared.table.Table.{Table}
use Rattle.vs_prices.specs.Table.{Fits, HoldingTable}
use Rattle.vs_prices.specs.Worth.{IsWorth}

-- the table fits and holds, and is worth that no plan runs each trip in a layer of its set
pub record ShowsNoPlan (p : Problem) (sets : List LayerSet) (table : Table) : Type 0 where
  pub fits : Fits p table
  pub holds : HoldingTable p table
  pub worth : IsWorth p sets table NoPlan

-- the table fits and holds
pub record IsHolding (p : Problem) (table : Table) : Type 0 where
  pub fits : Fits p table
  pub holds : HoldingTable p table
