-- A plan of least cost among those within sets of layers.
use Rattle.std.specs.Prelude.{◌≡◌, List, Option, Some, None, pos, ◌≤ℤ◌}
use Rattle.vs_types.specs.declared.layer_set.LayerSet.{LayerSet}
use Rattle.vs_instance.specs.Problem.{Problem}
use Rattle.vs_instance.specs.Plan.{LayerBlock, IsPlan, plan_cost}
use Rattle.vs_instance.specs.Restriction.{IsWithin}
use Rattle.vs_plan.specs.CheckedPlan.{Checked, IsChecked}
use Rattle.vs_prices.specs.declared.bound.Bound.TheVariants.{AtLeast, NoPlan}
use Rattle.vs_prices.specs.declared.table.Table.{Table}
use Rattle.vs_prices.specs.Worth.{IsWorth}

-- a checked plan of the instance, within the sets
pub record IsPlanWithin (p : Problem) (sets : List LayerSet) (c : Checked) : Type 0 where
  pub problem : c.problem ≡ p
  pub checked : IsChecked c
  pub within : IsWithin sets c.blocks

-- of which none within the sets costs less
pub record IsLeastPlan (p : Problem) (sets : List LayerSet) (c : Checked) : Type 0 where
  pub plan : IsPlanWithin p sets c
  pub least : (blocks : List LayerBlock) → IsPlan p blocks → IsWithin sets blocks
      → c.cost ≤ℤ pos (plan_cost p blocks)

-- such a plan, None exactly where no plan lies within the sets
abbrev pub IsBestWithin : Problem → List LayerSet → Option Checked → Type 0
IsBestWithin p sets None = (blocks : List LayerBlock) → IsPlan p blocks → ¬ (IsWithin sets blocks)
IsBestWithin p sets (Some c) = IsLeastPlan p sets c

-- the table is worth just what the plan costs, or shows that there is none
abbrev pub ShowsPlan : Problem → List LayerSet → Table → Option Checked → Type 0
ShowsPlan p sets table None = IsWorth p sets table NoPlan
ShowsPlan p sets table (Some c) = IsPlanWithin p sets c × IsWorth p sets table (AtLeast c.cost)
