use Rattle.std.proofs.Common.{subst}
use Rattle.vs_trace.specs.TraceRefusals.{IsRefusal}
use Rattle.vs_replay.proofs.ReplayOwed.{replay_owed, trace_refusal_owed}
use Rattle.vs_replay.proofs.answering.answer_trace.Goals as goal

pub returns-in-Ok : goal.returns-in-Ok
returns-in-Ok c = λ bytes stands.
    let input = c.args.input.now in
    replay_owed bytes input.instance input.names input.before input.rest c.in-Ok.trace c.replayed.result stands
    c.in-Ok.ensures.found c.replayed.ensures

pub returns-in-Refused : goal.returns-in-Refused
returns-in-Refused c = λ bytes stands.
    let input = c.args.input.now in
    trace_refusal_owed bytes input.instance input.names input.before input.rest c.in-Refused.row c.in-Refused.why
    c.refused_trace.result stands
    (subst (IsRefusal input.instance input.names input.before input.rest) c.in-Refused.is c.in-Err.ensures.refused)
    c.refused_trace.ensures
