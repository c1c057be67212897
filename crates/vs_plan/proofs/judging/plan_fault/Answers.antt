use Rattle.std.proofs.Common.{◌≡◌, Option, sym, subst, ◌∙◌}
use Rattle.std.specs.Prelude.{IfOk}
use Rattle.vs_instance.proofs.CallerLemmas.{first-skip, first-stop}
use Rattle.vs_plan.specs.declared.plan_fault.PlanFault.{PlanFault}
use Rattle.vs_plan.specs.Blocks.{pairs_of}
use Rattle.vs_plan.specs.PlanFaults.{blocks_faults, joint_faults}
use Rattle.vs_plan.proofs.judging.plan_fault.Goals as goal

pub returns-in-Some : goal.returns-in-Some
returns-in-Some c =
    let p = c.args.instance.now in
    let bs = pairs_of c.args.blocks.now in
    sym (first-stop (blocks_faults p bs) (joint_faults p bs) c.in-Some.fault
    (sym c.blocks_fault.ensures ∙ c.in-Some.is))

pub returns-in-None : goal.returns-in-None
returns-in-None c =
    let p = c.args.instance.now in
    let bs = pairs_of c.args.blocks.now in
    subst (λ (o : Option PlanFault). IfOk c.joint_fault.result (λ fault. fault ≡ o))
    (sym (first-skip (blocks_faults p bs) (joint_faults p bs) (sym c.blocks_fault.ensures ∙ c.in-None.is)))
    c.joint_fault.ensures
