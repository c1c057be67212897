use Rattle.vs_reader.proofs.CallerLemmas.{stands_counts}
use Rattle.vs_reply.proofs.timetable.answer_blocks.Goals as goal

pub answer_for-requires-clause-names : goal.answer_for-requires-clause-names
answer_for-requires-clause-names c =
    let text = c.in-Ok.ensures.found in
    stands_counts c.args.bytes.now c.in-Ok.case.input.instance c.in-Ok.case.input.names text.before text.rest
    text.instance
