use Rattle.std.proofs.Common.{ℤ, sym, subst}
use Rattle.vs_plan.specs.declared.block.Plan.{Plan}
use Rattle.vs_trace.specs.declared.trace.Full.TheVariants.{Offered}
use Rattle.vs_trace.specs.Reading.{ReadsOne}
use Rattle.vs_trace.proofs.KindsOfRows.{cost_word}
use Rattle.vs_trace.proofs.StepReading.{read_offered}
use Rattle.vs_trace.proofs.reading.steps.read_offered.Goals as goal

pub returns-clause-found : goal.returns-clause-found
returns-clause-found c =
    let input = c.args.input.now in
    let plan : Plan = record { blocks = c.in_ok-blocks.blocks } in
    let P : ℤ → Type 0 = λ x. ReadsOne input c.args.row c.args.before (Offered c.args.worker x plan)
    c.in_ok-blocks.next c.args.before in
    subst P (sym (cost_word c.args.cost c.requires.says.1.cost_is))
    (read_offered input c.args.row c.args.before c.requires.before c.args.worker c.in_ok-blocks.next c.args.cost plan
    c.requires.input c.requires.says c.in_ok-blocks.ensures)
