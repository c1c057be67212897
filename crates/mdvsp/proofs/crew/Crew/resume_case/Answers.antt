use Rattle.std.proofs.Common.{IfOk, subst}
use Rattle.vs_words.specs.Words.{IsUnlimited}
use Rattle.vs_words.specs.declared.command.Effort.{Effort}
use Rattle.mdvsp.specs.Answered.{IsResumed}
use Rattle.mdvsp.specs.Resuming.{BeginsResuming}
use Rattle.mdvsp.proofs.owing.ResumeOwed.{no_start_owed, resumed_owed}
use Rattle.mdvsp.proofs.crew.Crew.resume_case.Goals as goal

pub returns-in-With : goal.returns-in-With
returns-in-With g c = λ bytes text.
    let case = c.args.case in
    let start = subst (BeginsResuming c.args.effort case) c.in-With.is c.in_ok-budget.ensures in
    resumed_owed c.args.effort bytes case.input.instance case.input.names case.document text c.in-With.budget
    c.carry_on.result start.is_budget start.holds
    (subst (λ (e : Effort). IfOk c.carry_on.result (IsResumed (IsUnlimited e) case.input.instance case.input.names
    c.in-With.budget case.document)) c.requires.limits c.carry_on.ensures)

pub returns-in-Not : goal.returns-in-Not
returns-in-Not g c = λ bytes text.
    no_start_owed c.args.effort bytes c.args.case c.in-Not.answer text
    (subst (BeginsResuming c.args.effort c.args.case) c.in-Not.is c.in_ok-budget.ensures)
