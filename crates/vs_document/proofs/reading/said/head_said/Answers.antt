use Rattle.vs_document.proofs.rows.RowKinds.{no_head_row}
use Rattle.vs_document.proofs.reading.said.head_said.Goals as goal

pub returns-in_err-nodes-clause-none : goal.returns-in_err-nodes-clause-none
returns-in_err-nodes-clause-none c =
    rw c.from_residual.ensures
    (λ said is names. no_head_row names _ (λ x. c.in_default.ensures.none x names)
    (λ x. c.in_default-cost.ensures.none x names) (λ x. c.in_default-bound.ensures.none x names)
    (λ n. c.in_err-nodes.ensures.none n names) said is)
