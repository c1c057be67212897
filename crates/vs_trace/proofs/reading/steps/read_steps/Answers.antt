use Rattle.std.proofs.Common.{[], arith}
use Rattle.vs_rows.proofs.CallerLemmas.{err_passes}
use Rattle.vs_trace.specs.Places.{InTable}
use Rattle.vs_trace.specs.Reading.{IsRefusedAt}
use Rattle.vs_trace.proofs.ReadThrough.{passes}
use Rattle.vs_trace.proofs.StepReading.{steps_end_early, steps_more, steps_none}
use Rattle.vs_trace.proofs.reading.steps.read_steps.Goals as goal

pub loop-row-init : goal.loop-row-init
loop-row-init c = rw c.new-steps.ensures.items (steps_none c.args.input.now c.args.at c.requires.row)

pub returns-in_err-read-clause-refused : goal.returns-in_err-read-clause-refused
returns-in_err-read-clause-refused c =
    err_passes _ (IsRefusedAt c.args.input.now c.args.at (InTable 0 [])) c.from_residual.ensures.1
    (passes c.args.input.now _ c.loop-row.invariant.lead c.in_err-read.ensures.refused)

pub loop-row-preserved : goal.loop-row-preserved
loop-row-preserved c =
    steps_more c.args.input.now c.args.at c.loop-row.row c.loop-row.before c.in-Step.next c.in-Step.tables
    c.loop-row.steps.items c.push.new.self.items c.in-Step.step c.loop-row.invariant
    (rw c.in-Step.is at c.in_ok-read.ensures.found) c.in_ok-push-in-Step.ensures.items

pub returns-clause-refused : goal.returns-clause-refused
returns-clause-refused c =
    rw c.refusal.ensures
    (steps_end_early c.args.input.now c.args.at c.loop-row.row c.loop-row.before c.loop-row.steps.items
    c.loop-row.invariant (omega (arith, c.loop-row-test.false, c.len.ensures)))
