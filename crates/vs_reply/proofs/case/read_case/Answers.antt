use Rattle.std.proofs.Common.{subst, sym}
use Rattle.vs_document.specs.DocumentRefusals.{IsRefusal}
use Rattle.vs_reply.specs.Answered.{RefusesCase}
use Rattle.vs_reply.proofs.owing.OwedAnswers.{no_document_case}
use Rattle.vs_reply.proofs.case.read_case.Goals as goal

pub returns-in-Refused-clause-refused : goal.returns-in-Refused-clause-refused
returns-in-Refused-clause-refused c =
    let input = c.in_ok-input.input in
    subst (RefusesCase c.args.bytes.now) (sym c.refusal.ensures)
    (no_document_case c.args.bytes.now input.instance input.names input.before input.rest c.in-Refused.row
    c.in-Refused.why c.refused_document.result c.in_ok-input.ensures.found
    (subst (IsRefusal input.instance input.names input.before input.rest) c.in-Refused.is c.in-Err.ensures.refused)
    c.refused_document.ensures)
