-- How what tables are worth compares.
use Rattle.std.proofs.Common.{List, subst, ℤ}
use Rattle.vs_types.specs.declared.layer_set.LayerSet.{LayerSet}
use Rattle.vs_instance.specs.Problem.{Problem}
use Rattle.vs_prices.specs.declared.bound.Bound.{Bound}
use Rattle.vs_prices.specs.declared.table.Table.{Table}
use Rattle.vs_prices.specs.Bounds.{IsNoLess, IsWorthNoLess, ReachesLagrangian}
use Rattle.vs_prices.specs.Worth.{IsWorth, worth_of}
use Rattle.vs_prices.proofs.CallerLemmas.{no_less-refl, no_less-trans, reaches_more, worth_of-IsWorth, worth_once}

module _ (p : Problem) (sets : List LayerSet) where
  -- a table with a worth that is no less than another's is worth no less
  pub worth_no_less-by : (table other : Table) (worth least : Bound) → IsWorth p sets table worth
      → IsWorth p sets other least → IsNoLess worth least → IsWorthNoLess p sets table other
  worth_no_less-by table other worth least is are more w l is_w is_l =
      subst (λ (b : Bound). IsNoLess b l) (worth_once p sets table worth w is is_w)
      (subst (λ (b : Bound). IsNoLess worth b) (worth_once p sets other least l are is_l) more)

  -- a table is worth no less than itself
  pub worth_no_less-itself : (table : Table) → IsWorthNoLess p sets table table
  worth_no_less-itself table w l is_w is_l =
      subst (λ (b : Bound). IsNoLess w b) (worth_once p sets table w l is_w is_l) (no_less-refl w)

  -- and no less than a table that another one between the two is worth no less than
  pub worth_no_less-trans : (a b c : Table) → IsWorthNoLess p sets a b → IsWorthNoLess p sets b c
      → IsWorthNoLess p sets a c
  worth_no_less-trans a b c more less w l is_w is_l =
      let middle = worth_of-IsWorth p sets b in
      no_less-trans w (worth_of p sets b) l (more w (worth_of p sets b) is_w middle)
      (less (worth_of p sets b) l middle is_l)

  -- a table that is worth no less reaches every Lagrangian value that the other one does
  pub lagrangian-kept : (new old : Table) (multipliers : List ℤ) → IsWorthNoLess p sets new old
      → ReachesLagrangian p sets multipliers old → ReachesLagrangian p sets multipliers new
  lagrangian-kept new old multipliers more reaches w value is_w is_value =
      let before = worth_of-IsWorth p sets old in
      reaches_more w (worth_of p sets old) value (more w (worth_of p sets old) is_w before)
      (reaches (worth_of p sets old) value before is_value)
