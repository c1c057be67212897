-- Prices of the problem without rates as a ray of the problem.
use Rattle.std.proofs.Common.{List}
use Rattle.vs_types.specs.declared.layer_set.LayerSet.{LayerSet}
use Rattle.vs_instance.specs.Problem.{Problem}
use Rattle.vs_instance.specs.Restriction.{IsRestriction}
use Rattle.vs_instance.specs.Unrated.{without_rates}
use Rattle.vs_prices.specs.declared.bound.Bound.TheVariants.{NoPlan}
use Rattle.vs_prices.specs.declared.table.Table.{Table}
use Rattle.vs_prices.specs.Rays.{as_ray}
use Rattle.vs_prices.specs.Table.{Fits, HoldingTable}
use Rattle.vs_prices.specs.Worth.{IsWorth}
use Rattle.vs_prices.proofs.CallerLemmas.{is_also_ray}
use Rattle.vs_penalty.specs.Rays.{ShowsNoPlan}

-- they fit
pub read-fits : (p : Problem) (table : Table) → Fits (without_rates p) table → Fits p (as_ray table)
read-fits p table = (is_also_ray p table).fits.0

-- and show that there is no plan, where they are worth that
pub read-shows : (p : Problem) (sets : List LayerSet) (table : Table) → Fits (without_rates p) table
    → HoldingTable (without_rates p) table → IsWorth p sets (as_ray table) NoPlan → ShowsNoPlan p sets (as_ray table)
read-shows p sets table fits holds worth =
    let also = is_also_ray p table in
    record { fits = also.fits.0 fits; holds = also.holds.0 holds; worth = worth }

-- sets that restrict a problem restrict it without rates too
pub unrated-IsRestriction : (p : Problem) (sets : List LayerSet) → IsRestriction p sets
    → IsRestriction (without_rates p) sets
unrated-IsRestriction p sets restriction = record {
  each_trip = restriction.each_trip;
  some_layer = restriction.some_layer;
  permitted = restriction.permitted;
}
