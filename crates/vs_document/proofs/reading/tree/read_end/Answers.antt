use Rattle.std.proofs.Common.{◌+◌, refl, arith}
use Rattle.vs_rows.specs.DocumentRows.{EndRow}
use Rattle.vs_document.specs.DocumentRefusals.{documents}
use Rattle.vs_document.specs.declared.refused.DocWhy.TheVariants.{RowsAfterEnd}
use Rattle.vs_document.specs.Places.{InTree, AtEnd}
use Rattle.vs_document.specs.Reading.{IsRefusedAt}
use Rattle.vs_rows.proofs.CallerLemmas.{err_passes, leads_one, refused_after_end}
use Rattle.vs_document.proofs.reading.tree.read_end.Goals as goal

pub returns-in_err-said_at-clause-refused : goal.returns-in_err-said_at-clause-refused
returns-in_err-said_at-clause-refused c =
    err_passes _ (IsRefusedAt c.args.input.now c.args.row (InTree c.args.tables 0))
    c.from_residual.ensures.1 (c.in_err-said_at.ensures.refused (InTree c.args.tables 0) (λ e. cc))

pub returns-then-row-len-clause-refused : goal.returns-then-row-len-clause-refused
returns-then-row-len-clause-refused c =
    let says = rw c.in-End.is at c.in_ok-said_at.ensures.says in
    let lead =
    leads_one documents c.args.input.now c.args.row c.in_ok-said_at.ensures.within (InTree c.args.tables 0) EndRow says
    AtEnd (record { suits = tt; order = refl; right = (tt, tt) }) in
    rw c.refusal-then-row-len.ensures
    (lead.refused (c.args.input.now.before + 1 + (c.args.row + 1)) RowsAfterEnd
    (refused_after_end documents c.args.input.now (c.args.row + 1)
    (omega (arith, c.if-row-len.true, c.len.ensures))))
