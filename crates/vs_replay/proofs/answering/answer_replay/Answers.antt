use Rattle.vs_reader.proofs.CallerLemmas.{stands_counts}
use Rattle.vs_replay.proofs.ReplayOwed.{refusal_owed}
use Rattle.vs_replay.proofs.answering.answer_replay.Goals as goal

pub answer_trace-requires : goal.answer_trace-requires
answer_trace-requires c =
    let input = c.in-Ok.input in
    let e = c.in-Ok.ensures in
    record {
      counts = stands_counts c.args.bytes.now input.instance input.names input.before input.rest e.found;
      counted = e.counted;
    }

pub returns-in-Ok : goal.returns-in-Ok
returns-in-Ok c = c.answer_trace.ensures c.args.bytes.now c.in-Ok.ensures.found

pub returns-in-Err : goal.returns-in-Err
returns-in-Err c =
    refusal_owed c.args.bytes.now c.no_instance.result
    (c.no_instance.ensures c.args.bytes.now c.in-Err.ensures.refused)
