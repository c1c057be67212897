use Rattle.std.proofs.Common.{◌≡◌, ◌∙◌, List, IfOk, ap, not, subst, sym}
use Rattle.vs_plan.specs.declared.block.Block.{Block}
use Rattle.vs_plan.specs.Blocks.{blocks_of, pairs_of}
use Rattle.vs_plan.specs.PlanFaults.{IsFault, IsFirstFault}
use Rattle.vs_reader.specs.Rows.{lines}
use Rattle.vs_reply.specs.declared.answer.Answer.{Answer}
use Rattle.vs_reply.specs.declared.status.Status.TheVariants.{Done}
use Rattle.vs_reply.specs.Timetable.{timetable}
use Rattle.vs_reply.proofs.owing.BlocksOwed.{no_cost_owed, timetable_owed, no_plan_owed, fault_named}
use Rattle.vs_reply.proofs.timetable.answer_for.Goals as goal

pub returns-then-is_none : goal.returns-then-is_none
returns-then-is_none c = λ bytes text.
    let case = c.args.case.now in
    no_cost_owed bytes case.input.instance case.input.names case.document text c.of.result
    (c.is_none.ensures ∙ ap not c.if-is_none.true) c.of.ensures.status (c.of.ensures.text ∙ c.new.ensures)

pub returns-in-Ok : goal.returns-in-Ok
returns-in-Ok c = λ bytes text.
    let case = c.args.case.now in
    timetable_owed bytes case.input.instance case.input.names case.document text c.timetable_of.result
    (c.is_none.ensures ∙ ap not c.if-is_none.false) c.in-Ok.ensures.plan.0
    (subst (λ (blocks : List Block). IfOk c.timetable_of.result (λ (a : Answer). (a.status ≡ Done)
    × (a.text.items ≡ lines (timetable case.input.instance case.input.names (pairs_of blocks)))))
    c.deref.ensures.value c.timetable_of.ensures)

pub no-requires : goal.no-requires
no-requires c =
    let case = c.args.case.now in
    let p = case.input.instance in
    let names = case.input.names in
    let is_first = subst (IsFirstFault p (blocks_of case.document.plan)) c.in-Fault.is
    c.in-Err.ensures.fault in
    fault_named p names case.document c.in-Fault.fault c.requires.names
    (c.is_none.ensures ∙ ap not c.if-is_none.false) is_first

pub returns-in-Fault : goal.returns-in-Fault
returns-in-Fault c = λ bytes text.
    let case = c.args.case.now in
    let p = case.input.instance in
    let is_first = subst (IsFirstFault p (blocks_of case.document.plan)) c.in-Fault.is
    c.in-Err.ensures.fault in
    no_plan_owed bytes p case.input.names case.document text c.in-Fault.fault c.no.result
    (c.is_none.ensures ∙ ap not c.if-is_none.false)
    (c.in-Err.ensures.refused (subst IsFault (sym c.in-Fault.is) tt)) is_first
    c.no.ensures
