use Rattle.std.proofs.Common.{arith, length, sym, ◌∙◌}
use Rattle.vs_instance.proofs.CallerLemmas.{first_below-found, first_below-step}
use Rattle.vs_plan.specs.Blocks.{pairs_of}
use Rattle.vs_plan.specs.PlanFaults.{layer_faults}
use Rattle.vs_plan.proofs.judging.fleet_fault.Goals as goal

pub returns-in-Some : goal.returns-in-Some
returns-in-Some c =
    first_below-found (layer_faults c.args.instance.now (pairs_of c.args.blocks.now)) c.loop-l.l
    (length c.args.instance.now.layers) _
    c.loop-l.invariant c.in-Some.fault (omega arith) (sym c.in-Some.is ∙ c.layer_fault.ensures)

pub loop-l-preserved : goal.loop-l-preserved
loop-l-preserved c =
    first_below-step (layer_faults c.args.instance.now (pairs_of c.args.blocks.now)) c.loop-l.l
    (length c.args.instance.now.layers) _
    c.loop-l.invariant (omega arith) (sym c.in_default.is ∙ c.layer_fault.ensures)
