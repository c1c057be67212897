use Rattle.std.proofs.Common.{arith}
use Rattle.std.proofs.lemmas.Int.{ints}
use Rattle.vs_plan.specs.Blocks.{blocks_of}
use Rattle.vs_plan.proofs.CheckedPlans.{is_checked}
use Rattle.vs_plan.proofs.checked_plan.check_plan.Goals as goal

pub invariant_of-result : goal.invariant_of-result
invariant_of-result c =
    let judged = c.in-Ok.ensures in
    let value = judged.plan.1 in
    let limit = judged.limit in
    is_checked c.of.result.value c.args.instance.now
    (blocks_of c.args.plan) _ c.in-Ok.cost c.trips.ensures.instance judged.plan.0
    value limit c.of.ensures (omega (arith, ints))

pub returns-in-Ok-clause-checked : goal.returns-in-Ok-clause-checked
returns-in-Ok-clause-checked c = invariant_of-result c
