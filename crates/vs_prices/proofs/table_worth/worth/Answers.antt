use Rattle.std.proofs.Common.{rules, sym, subst}
use Rattle.std.proofs.lemmas.Int.{to_z-of_z}
use Rattle.vs_types.proofs.CallerLemmas.{match_false}
use Rattle.vs_prices.specs.Worth.{IsRoundedUp, IsWorth, table_value}
use Rattle.vs_prices.specs.declared.bound.Bound.TheVariants.{AtLeast, NoPlan}
use Rattle.vs_prices.proofs.Duality.{bounds_plans}
use Rattle.vs_prices.proofs.RunningTotals.{difference_passed}
use Rattle.vs_prices.proofs.table_worth.worth.Goals as goal
use mir.Syntax.{w128}

pub returns-then-not-table-clause-worth : goal.returns-then-not-table-clause-worth
returns-then-not-table-clause-worth c =
    let p = c.args.instance.now in
    let sets = c.args.sets.now in
    let value =
    difference_passed c.trips_pay.result c.vehicles_pay.result _ _ c.trips_pay.ensures.value
    c.vehicles_pay.ensures.value
    c.trips_pay.ensures.low c.trips_pay.ensures.high c.vehicles_pay.ensures.low c.vehicles_pay.ensures.high in
    let same = to_z-of_z w128 c.rounded_up.result (record { sfits = c.rounded_up.type_inv }) in
    let rounded = subst (λ v. IsRoundedUp v c.rounded_up.result) value c.rounded_up.ensures in
    match_false c.args.table.now.ray _ _ c.if-not-table.true
    (subst (λ n. IsRoundedUp (table_value p sets c.args.table.now) n) (sym same) rounded)

pub returns-then-not-table-clause-bounds : goal.returns-then-not-table-clause-bounds
returns-then-not-table-clause-bounds c = λ holds.
    bounds_plans c.args.instance.now c.args.sets.now c.args.table.now
    (AtLeast _) c.vehicles_pay.ensures.instance c.requires.restriction c.requires.fits holds
    (returns-then-not-table-clause-worth c)

pub returns-then-value-gt0-clause-bounds : goal.returns-then-value-gt0-clause-bounds
returns-then-value-gt0-clause-bounds c = λ holds.
    let no_plan : IsWorth c.args.instance.now c.args.sets.now c.args.table.now NoPlan = search rules in
    bounds_plans c.args.instance.now c.args.sets.now c.args.table.now NoPlan c.vehicles_pay.ensures.instance
    c.requires.restriction c.requires.fits holds no_plan
