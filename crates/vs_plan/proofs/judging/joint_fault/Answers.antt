use Rattle.std.proofs.Common.{sym, ◌∙◌}
use Rattle.vs_instance.proofs.CallerLemmas.{first-skip, first-stop}
use Rattle.vs_plan.specs.Blocks.{pairs_of}
use Rattle.vs_plan.specs.PlanFaults.{cover_faults, fleet_faults}
use Rattle.vs_plan.proofs.TakenBlocks.{few_blocks}
use Rattle.vs_plan.proofs.judging.joint_fault.Goals as goal

pub fleet_fault-requires : goal.fleet_fault-requires
fleet_fault-requires c = few_blocks c.args.instance.now c.args.blocks.now c.requires

pub returns-in-Some : goal.returns-in-Some
returns-in-Some c =
    let p = c.args.instance.now in
    let bs = pairs_of c.args.blocks.now in
    sym (first-stop (cover_faults p bs) (fleet_faults p bs) c.in-Some.fault (sym c.in_ok-fault.ensures ∙ c.in-Some.is))

pub returns-in-None : goal.returns-in-None
returns-in-None c =
    let p = c.args.instance.now in
    let bs = pairs_of c.args.blocks.now in
    c.fleet_fault.ensures
    ∙ sym (first-skip (cover_faults p bs) (fleet_faults p bs) (sym c.in_ok-fault.ensures ∙ c.in-None.is))
