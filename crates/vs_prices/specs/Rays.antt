-- Tables of a problem where nothing costs anything, read as rays of one where something does.
use Rattle.std.specs.Prelude.{◌≡◌, ◌↔◌, true, List, pos, ◌<ℤ◌}
use Rattle.vs_types.specs.declared.layer_set.LayerSet.{LayerSet}
use Rattle.vs_instance.specs.Problem.{Problem}
use Rattle.vs_instance.specs.Unrated.{without_rates}
use Rattle.vs_prices.specs.declared.bound.Bound.TheVariants.{NoPlan}
use Rattle.vs_prices.specs.declared.table.Table.{Table}
use Rattle.vs_prices.specs.Table.{Fits, HoldingTable}
use Rattle.vs_prices.specs.Worth.{IsWorth, table_value}

-- the same prices as a ray
abbrev pub as_ray : Table → Table
as_ray table = record { into = table.into; from = table.from; fleet = table.fleet; ray = true }

-- In the problem without rates the table fits and holds exactly where the ray does in the problem, and has the same
-- value; the ray shows that there is no plan exactly where this is above 0.
pub record IsAlsoRay (p : Problem) (table : Table) : Type 0 where
  pub fits : Fits (without_rates p) table ↔ Fits p (as_ray table)
  pub holds : HoldingTable (without_rates p) table ↔ HoldingTable p (as_ray table)
  pub value : (sets : List LayerSet) → table_value (without_rates p) sets table ≡ table_value p sets (as_ray table)
  pub shows : (sets : List LayerSet) → IsWorth p sets (as_ray table) NoPlan
      ↔ (pos 0 <ℤ table_value (without_rates p) sets table)
