-- What a table that shows a least plan, or that there is none, is good for.
use Rattle.std.proofs.Common.{◌≡◌, ℕ, ◌<◌, Bool, List, length, sym, ap, ◌∙◌, subst, arith, inr, Option, Some, None, ℤ, pos}
use Rattle.std.proofs.lemmas.Int.{ints}
use Rattle.vs_types.specs.declared.layer_set.LayerSet.{LayerSet}
use Rattle.vs_instance.specs.Problem.{Problem}
use Rattle.vs_instance.specs.Instance.{IsInstance}
use Rattle.vs_instance.specs.Plan.{IsPlan, plan_cost}
use Rattle.vs_instance.specs.Restriction.{IsRestriction}
use Rattle.vs_instance.proofs.CallerLemmas.{values_bound_plans}
use Rattle.vs_plan.specs.CheckedPlan.{Checked}
use Rattle.vs_prices.specs.declared.bound.Bound.{Bound}
use Rattle.vs_prices.specs.declared.bound.Bound.TheVariants.{AtLeast, NoPlan}
use Rattle.vs_prices.specs.declared.table.Table.{Table}
use Rattle.vs_prices.specs.Bounds.{IsBelow, IsNoLess, IsWorthNoLess, ReachesLagrangian, ReachesValue}
use Rattle.vs_prices.specs.Table.{Fits, HoldingTable}
use Rattle.vs_prices.specs.Worth.{IsBoundOn, IsWorth, trip_price}
use Rattle.vs_prices.proofs.CallerLemmas.{bounds_plans, worth_once}
use Rattle.vs_node.specs.ChosenLayers.{AreChosen, AreSingle}
use Rattle.vs_node.specs.LeastPlans.{IsBestWithin, IsPlanWithin, ShowsPlan}
use Rattle.vs_node.specs.NextSteps.{IsOpen}
use Rattle.vs_node.specs.WorkedStep.{IsWorked}
use Rattle.vs_node.proofs.searches.Begun.{begun-each_trip}

-- where trips have one layer each, that is the cheapest
pub single_chosen : (p : Problem) (sets : List LayerSet) (table : Table) → IsRestriction p sets → AreSingle sets
    → AreChosen p sets table sets
single_chosen p sets table restriction single = record {
  each_trip = restriction.each_trip;
  cheapest = λ i l inside. (
    (λ has. record {
      among = has;
      first = λ m too.
          let same = single i l m (subst (λ (n : ℕ). i < n) (sym restriction.each_trip) inside) has too in
          inr (ap (trip_price p table i) same, omega (arith, same));
    }),
    (λ cheapest. cheapest.among),
  );
}

-- a checked plan of the instance is one, at its cost
plan_of : (p : Problem) (sets : List LayerSet) (c : Checked) → IsPlanWithin p sets c
    → IsPlan p c.blocks × (c.cost ≡ pos (plan_cost p c.blocks))
plan_of p sets c is = (
  subst (λ (q : Problem). IsPlan q c.blocks) is.problem is.checked.plan,
  is.checked.cost ∙ ap (λ (q : Problem). pos (plan_cost q c.blocks)) is.problem,
)

no_less-bound : (least : Bound) (cost : ℕ) (n : ℤ) → n ≡ pos cost → IsBoundOn least cost → IsNoLess (AtLeast n) least
no_less-bound NoPlan cost n is bound = absurd bound
no_less-bound (AtLeast m) cost n is bound = omega (arith, ints, is, bound)

not_below_both : (cost : ℤ) (known : Option ℤ) → ¬ (IsBelow (AtLeast cost) known × IsBelow (AtLeast cost) (Some cost))
not_below_both cost known both = let below = both.1 in omega (arith, ints, below)

module _ (p : Problem) (sets : List LayerSet) (table : Table) (instance : IsInstance p)
    (restriction : IsRestriction p sets) (fits : Fits p table) (holds : HoldingTable p table) where
  -- the plan is a least one
  pub shown-best : (plan : Option Checked) → ShowsPlan p sets table plan → IsBestWithin p sets plan
  shown-best None shows = λ blocks plan within.
      bounds_plans p sets table NoPlan instance restriction fits holds shows blocks plan within
  shown-best (Some c) shows = record {
    plan = shows.0;
    least = λ blocks plan within.
        bounds_plans p sets table (AtLeast c.cost) instance restriction fits holds shows.1 blocks plan within;
  }

  -- no table that holds is worth more
  pub shown-no_less : (plan : Option Checked) → ShowsPlan p sets table plan → (other : Table) → Fits p other
      → HoldingTable p other → IsWorthNoLess p sets table other
  shown-no_less None shows other other_fits other_holds worth least is_worth is_least =
      subst (λ (b : Bound). IsNoLess b least) (worth_once p sets table NoPlan worth shows is_worth) tt
  shown-no_less (Some c) shows other other_fits other_holds worth least is_worth is_least =
      let plan = plan_of p sets c shows.0 in
      subst (λ (b : Bound). IsNoLess b least) (worth_once p sets table (AtLeast c.cost) worth shows.1 is_worth)
      (no_less-bound least (plan_cost p c.blocks) c.cost plan.1
      (bounds_plans p sets other least instance restriction other_fits other_holds is_least c.blocks plan.0
      shows.0.within))

  -- it reaches every Lagrangian value
  shown-reaches : (plan : Option Checked) → ShowsPlan p sets table plan → (multipliers : List ℤ)
      → length multipliers ≡ length p.trips → ReachesLagrangian p sets multipliers table
  shown-reaches None shows multipliers long worth value is_worth is_value =
      subst (λ (b : Bound). ReachesValue b value) (worth_once p sets table NoPlan worth shows is_worth) tt
  shown-reaches (Some c) shows multipliers long worth value is_worth is_value =
      let plan = plan_of p sets c shows.0 in
      let cost = plan.1 in
      let bound = values_bound_plans p sets multipliers value long is_value c.blocks plan.0 shows.0.within in
      subst (λ (b : Bound). ReachesValue b value) (worth_once p sets table (AtLeast c.cost) worth shows.1 is_worth)
      (omega (arith, ints, cost, bound))

  -- so the leaf is worked on
  pub shown-worked : (plan : Option Checked) → ShowsPlan p sets table plan → (root : Bool) (old : Table)
      → IsWorked p root sets old table
  shown-worked plan shows root old multipliers begun =
      shown-reaches plan shows multipliers (begun-each_trip p root sets old multipliers begun)

  -- and leaves no room for a cheaper plan
  pub shown-closed : (plan : Option Checked) → ShowsPlan p sets table plan → (known : Option ℤ) → (worth : Bound)
      → IsWorth p sets table worth → ¬ (IsOpen worth known plan)
  shown-closed None shows known worth is_worth room =
      (subst (λ (b : Bound). IsOpen b known None) (sym (worth_once p sets table NoPlan worth shows is_worth)) room).0
  shown-closed (Some c) shows known worth is_worth room =
      not_below_both c.cost known
      (subst (λ (b : Bound). IsOpen b known (Some c))
      (sym (worth_once p sets table (AtLeast c.cost) worth shows.1 is_worth))
      room)
