use Rattle.vs_reader.proofs.CallerLemmas.{stands_counts}
use Rattle.vs_reply.proofs.owing.PeaksOwed.{peaks_refusal_owed}
use Rattle.vs_reply.proofs.peaks.answer_peakcheck.Goals as goal

pub answer_claims-requires : goal.answer_claims-requires
answer_claims-requires c =
    let input = c.in-Ok.input in
    let e = c.in-Ok.ensures in
    record {
      counts = stands_counts c.args.bytes.now input.instance input.names input.before input.rest e.found;
      counted = e.counted;
    }

pub returns-in-Ok : goal.returns-in-Ok
returns-in-Ok c = c.answer_claims.ensures c.args.bytes.now c.in-Ok.ensures.found

pub returns-in-Err : goal.returns-in-Err
returns-in-Err c =
    peaks_refusal_owed c.args.bytes.now c.no_instance.result
    (c.no_instance.ensures c.args.bytes.now c.in-Err.ensures.refused)
