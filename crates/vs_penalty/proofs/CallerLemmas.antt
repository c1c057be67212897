-- What follows where a table shows that there is no plan.
use Rattle.std.proofs.Common.{◌≡◌, List, ℤ, sym, subst}
use Rattle.vs_types.specs.declared.layer_set.LayerSet.{LayerSet}
use Rattle.vs_instance.specs.Problem.{Problem}
use Rattle.vs_prices.specs.declared.bound.Bound.{Bound}
use Rattle.vs_prices.specs.declared.bound.Bound.TheVariants.{NoPlan}
use Rattle.vs_prices.specs.declared.table.Table.{Table}
use Rattle.vs_prices.specs.Bounds.{IsNoLess, IsWorthNoLess, ReachesLagrangian, ReachesValue}
use Rattle.vs_prices.specs.Worth.{IsWorth}
use Rattle.vs_prices.proofs.CallerLemmas.{worth_once}
use Rattle.vs_penalty.specs.Rays.{ShowsNoPlan}

module _ (p : Problem) (sets : List LayerSet) (table : Table) (shows : ShowsNoPlan p sets table) where
  -- it is worth nothing else
  pub shown-once : (worth : Bound) → IsWorth p sets table worth → worth ≡ NoPlan
  shown-once worth is = worth_once p sets table worth NoPlan is shows.worth

  -- no table is worth more
  pub shown-no_less : (other : Table) → IsWorthNoLess p sets table other
  shown-no_less other worth least is of_other =
      subst (λ (b : Bound). IsNoLess b least) (sym (shown-once worth is)) tt

  -- it reaches each Lagrangian value
  pub shown-reaches : (multipliers : List ℤ) → ReachesLagrangian p sets multipliers table
  shown-reaches multipliers worth value is of_value =
      subst (λ (b : Bound). ReachesValue b value) (sym (shown-once worth is)) tt
