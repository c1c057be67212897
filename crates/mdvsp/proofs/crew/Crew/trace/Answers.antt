use Rattle.std.proofs.Common.{ℕ, IfOk, subst}
use Rattle.vs_words.specs.Words.{IsUnlimited}
use Rattle.vs_words.specs.declared.command.Effort.{Effort}
use Rattle.mdvsp.specs.Answered.{AnswersTrace}
use Rattle.mdvsp.specs.Searching.{IsSearchable}
use Rattle.mdvsp.proofs.owing.TraceOwed.{no_trace_owed, trace_owed}
use Rattle.mdvsp.proofs.crew.Crew.trace.Goals as goal

pub returns-in-With : goal.returns-in-With
returns-in-With g c =
    let timetable = c.in-With.timetable in
    let found = subst (IsSearchable c.args.effort c.args.bytes.now) c.in-With.is c.in_ok-timetable.ensures in
    trace_owed c.args.effort c.args.bytes.now timetable.instance timetable.names c.in-With.budget c.tell.result
    found.text found.budget_is
    (subst (λ (e : Effort). IfOk c.tell.result
    (AnswersTrace (IsUnlimited e) timetable.instance timetable.names c.in-With.budget c.args.effort.workers))
    c.requires.limits
    (subst (λ (w : ℕ). IfOk c.tell.result (AnswersTrace (IsUnlimited c.args.self.now.gate.effort) timetable.instance
    timetable.names c.in-With.budget w)) c.requires.workers c.tell.ensures))

pub returns-in-Not : goal.returns-in-Not
returns-in-Not g c =
    no_trace_owed c.args.effort c.args.bytes.now c.in-Not.answer
    (subst (IsSearchable c.args.effort c.args.bytes.now) c.in-Not.is c.in_ok-timetable.ensures)
