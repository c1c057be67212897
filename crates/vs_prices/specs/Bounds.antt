-- How what tables are worth compares with costs, with values and with each other.
use Rattle.std.specs.Prelude.{List, Option, Some, None, ℤ, ◌*ℤ◌, ◌≤ℤ◌, ◌<ℤ◌}
use Rattle.vs_types.specs.declared.layer_set.LayerSet.{LayerSet}
use Rattle.vs_types.specs.declared.numbers.TheConstants.{SCALE}
use Rattle.vs_instance.specs.Problem.{Problem}
use Rattle.vs_instance.specs.Lagrangian.{IsLagrangianValue}
use Rattle.vs_prices.specs.declared.bound.Bound.{Bound}
use Rattle.vs_prices.specs.declared.bound.Bound.TheVariants.{AtLeast, NoPlan}
use Rattle.vs_prices.specs.declared.table.Table.{Table}
use Rattle.vs_prices.specs.Worth.{IsWorth}

-- the one bound is no less than the other
abbrev pub IsNoLess : Bound → Bound → Type 0
IsNoLess NoPlan other = Unit {0}
IsNoLess (AtLeast n) (AtLeast m) = m ≤ℤ n
IsNoLess (AtLeast n) NoPlan = ⊥

-- the bound leaves room for a plan that costs less, or for any plan where there is no cost
abbrev pub IsBelow : Bound → Option ℤ → Type 0
IsBelow NoPlan cost = ⊥
IsBelow (AtLeast n) None = Unit {0}
IsBelow (AtLeast n) (Some cost) = n <ℤ cost

-- the bound is no less than a value in 1/1000 of a cost unit
abbrev pub ReachesValue : Bound → ℤ → Type 0
ReachesValue NoPlan value = Unit {0}
ReachesValue (AtLeast n) value = value ≤ℤ (n *ℤ SCALE)

-- within the sets the one table is worth no less than the other
abbrev pub IsWorthNoLess : Problem → List LayerSet → Table → Table → Type 0
IsWorthNoLess p sets table other =
    (worth least : Bound) → IsWorth p sets table worth → IsWorth p sets other least → IsNoLess worth least

-- within the sets the table is worth no less than the Lagrangian value at these multipliers
abbrev pub ReachesLagrangian : Problem → List LayerSet → List ℤ → Table → Type 0
ReachesLagrangian p sets multipliers table =
    (worth : Bound) (value : ℤ) → IsWorth p sets table worth → IsLagrangianValue p sets multipliers value
    → ReachesValue worth value
