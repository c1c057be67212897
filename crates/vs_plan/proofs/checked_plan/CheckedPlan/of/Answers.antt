use Rattle.std.proofs.Common.{◌≡◌, List, ap, arith, pos, ◌∙◌}
use Rattle.std.proofs.lemmas.Int.{ints}
use Rattle.vs_instance.specs.Plan.{plan_cost}
use Rattle.vs_plan.specs.declared.block.Block.{Block}
use Rattle.vs_plan.specs.Blocks.{blocks_of, pairs_of}
use Rattle.vs_plan.proofs.CheckedPlans.{is_checked}
use Rattle.vs_plan.proofs.checked_plan.CheckedPlan.of.Goals as goal

value : (c : goal.After-of) → c.blocks_cost-cost.result ≡ pos (plan_cost c.args.instance.now (blocks_of c.args.plan))
value c =
    c.blocks_cost-cost.ensures.value
    ∙ ap (λ (bs : List Block). pos (plan_cost c.args.instance.now (pairs_of bs))) c.deref.ensures.value

pub invariant_of-result : goal.invariant_of-result
invariant_of-result c =
    let fits = c.blocks_cost-cost.type_inv in
    is_checked c.of.result.value c.args.instance.now
    (blocks_of c.args.plan) _ c.blocks_cost-cost.result c.trips.ensures.instance c.requires
    (value c) c.blocks_cost-cost.ensures.limit c.of.ensures (omega (arith, ints))

pub returns-clause-checked : goal.returns-clause-checked
returns-clause-checked c = invariant_of-result c
