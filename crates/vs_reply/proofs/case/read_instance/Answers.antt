use Rattle.std.proofs.Common.{subst, sym}
use Rattle.vs_reader.proofs.CallerLemmas.{stands_counts}
use Rattle.vs_reply.specs.Answered.{RefusesCase}
use Rattle.vs_reply.proofs.owing.OwedAnswers.{refusal_case}
use Rattle.vs_reply.proofs.case.read_instance.Goals as goal

pub returns-in-Err-clause-refused : goal.returns-in-Err-clause-refused
returns-in-Err-clause-refused c =
    subst (RefusesCase c.args.bytes.now) (sym c.refusal.ensures)
    (refusal_case c.args.bytes.now c.no_instance.result
    (c.no_instance.ensures c.args.bytes.now c.in-Err.ensures.refused))

pub returns-in-Ok-clause-input : goal.returns-in-Ok-clause-input
returns-in-Ok-clause-input c =
    let input = c.in-Ok.input in
    let e = c.in-Ok.ensures in
    record {
      counts = stands_counts c.args.bytes.now input.instance input.names input.before input.rest e.found;
      counted = e.counted;
    }
