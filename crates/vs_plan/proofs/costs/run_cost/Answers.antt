use Rattle.std.proofs.Common.{◌∙◌, arith}
use Rattle.std.proofs.lemmas.Int.{ints}
use Rattle.vs_plan.proofs.BlockCosts.{AreParts, are_parts, few_in_block, looked_up}
use Rattle.vs_plan.proofs.costs.run_cost.Goals as goal

pub trips_cost-served-requires-clause-few : goal.trips_cost-served-requires-clause-few
trips_cost-served-requires-clause-few c =
    few_in_block c.args.instance.now c.args.l c.args.trips.now c.requires.instance c.requires.block

pub links_cost-between-requires-clause-few : goal.links_cost-between-requires-clause-few
links_cost-between-requires-clause-few c =
    few_in_block c.args.instance.now c.args.l c.args.trips.now c.requires.instance c.requires.block

parts : (c : goal.After-unwrap_or-back)
    → AreParts c.args.instance.now c.args.l c.args.trips.now c.unwrap_or-out.result c.trips_cost-served.result
    c.links_cost-between.result c.unwrap_or-back.result
parts c =
    are_parts c.args.instance.now c.args.l c.args.trips.now _ _ _ _ c.requires.instance c.requires.block
    (c.unwrap_or-out.ensures ∙ looked_up _ c.out_cost.result c.out_cost.ensures.value) c.trips_cost-served.ensures
    c.links_cost-between.ensures
    (c.unwrap_or-back.ensures ∙ looked_up _ c.in_cost.result c.in_cost.ensures.value)

pub overflow_add-there : goal.overflow_add-there
overflow_add-there c =
    let is = parts c in
    omega (arith, ints, is.whole, is.out_low, is.served_low, is.between_low, is.back_low, is.limit, is.few)

pub overflow_add-driven : goal.overflow_add-driven
overflow_add-driven c =
    let is = parts c in
    omega (arith, ints, is.whole, is.out_low, is.served_low, is.between_low, is.back_low, is.limit, is.few)

pub overflow_add-result : goal.overflow_add-result
overflow_add-result c =
    let is = parts c in
    omega (arith, ints, is.whole, is.out_low, is.served_low, is.between_low, is.back_low, is.limit, is.few)

pub returns-clause-value : goal.returns-clause-value
returns-clause-value c =
    let is = parts c in
    omega (arith, ints, is.whole, is.out_low, is.served_low, is.between_low, is.back_low, is.limit, is.few)

pub returns-clause-limit : goal.returns-clause-limit
returns-clause-limit c =
    let is = parts c in
    omega (arith, ints, is.whole, is.out_low, is.served_low, is.between_low, is.back_low, is.limit, is.few)
