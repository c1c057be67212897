use Rattle.std.proofs.Common.{◌≡◌, List, All, Option, None, ap, arith, pos, sym, ◌∙◌, subst}
use Rattle.std.proofs.lemmas.Int.{ints}
use Rattle.vs_instance.specs.Firsts.{first}
use Rattle.vs_instance.specs.Problem.{Problem}
use Rattle.vs_instance.specs.Plan.{IsPlan, plan_cost}
use Rattle.vs_plan.specs.declared.block.Block.{Block}
use Rattle.vs_plan.specs.declared.plan_fault.PlanFault.{PlanFault}
use Rattle.vs_plan.specs.Blocks.{IsOfInstance, blocks_of, pairs_of}
use Rattle.vs_plan.specs.PlanFaults.{faults_of}
use Rattle.vs_plan.proofs.Faultless.{faultless, plan_from_faultless, refuses}
use Rattle.vs_plan.proofs.judging.judge.Goals as goal

-- what was found of the slice of the plan's blocks was found of the plan
module _ (p : Problem) (slice blocks : List Block) (same : slice ≡ blocks) (fault : Option PlanFault)
    (is : fault ≡ first (faults_of p (pairs_of slice))) where
  found : fault ≡ first (faults_of p (pairs_of blocks))
  found = is ∙ ap (λ (bs : List Block). first (faults_of p (pairs_of bs))) same

  is_plan : All (IsOfInstance p) (pairs_of blocks) → fault ≡ None → IsPlan p (pairs_of blocks)
  is_plan are none = plan_from_faultless p (pairs_of blocks) are (faultless p (pairs_of blocks) (sym found ∙ none))

pub returns-in-Some-clause-refused : goal.returns-in-Some-clause-refused
returns-in-Some-clause-refused c = λ _.
    refuses c.args.instance.now (blocks_of c.args.plan.now) c.in-Some.fault
    (sym (found c.args.instance.now _ _ c.as_slice-blocks.ensures.value _ c.in_ok-fault.ensures) ∙ c.in-Some.is)

pub blocks_cost-requires : goal.blocks_cost-requires
blocks_cost-requires c =
    subst (λ (bs : List Block). IsPlan c.args.instance.now (pairs_of bs)) (sym c.as_slice-blocks.ensures.value)
    (is_plan c.args.instance.now _ _ c.as_slice-blocks.ensures.value _ c.in_ok-fault.ensures c.requires.of_instance
    c.in-None.is)

pub returns-in-None-clause-plan : goal.returns-in-None-clause-plan
returns-in-None-clause-plan c =
    let value = c.blocks_cost.ensures.value
    ∙ ap (λ (bs : List Block). pos (plan_cost c.args.instance.now (pairs_of bs))) c.as_slice-blocks.ensures.value in
    let fits = c.blocks_cost.type_inv in (
      is_plan c.args.instance.now _ _ c.as_slice-blocks.ensures.value _ c.in_ok-fault.ensures c.requires.of_instance
          c.in-None.is,
      omega (arith, ints),
    )
