use Rattle.std.proofs.Common.{ℤ, sym, subst}
use Rattle.vs_reader.specs.Rows.{row_of}
use Rattle.vs_trace.specs.TraceRows.{IsOfferedRow}
use Rattle.vs_trace.proofs.KindsOfRows.{cost_word, no_step_row}
use Rattle.vs_trace.proofs.reading.said.step_said.Goals as goal

pub returns-in-Some-offered-clause-says : goal.returns-in-Some-offered-clause-says
returns-in-Some-offered-clause-says c =
    let input = c.args.input.now in
    let says = c.in-Some-offered.ensures.found input.names in
    let P : ℤ → Type 0 = λ x. IsOfferedRow (row_of input.rest c.args.row) c.in-Some-offered.worker x in
    subst P (sym (cost_word c.in-Some-offered.cost says.cost_is)) says

pub returns-in_err-worker-clause-none : goal.returns-in_err-worker-clause-none
returns-in_err-worker-clause-none c =
    rw c.from_residual.ensures
    (no_step_row c.args.input.now.names _ c.in_default.ensures.none c.in_default-spot_row.ensures.none
    c.in_default-split.ensures.none
    (λ worker cost says. c.in_default-offered.ensures.none worker cost c.args.input.now.names says)
    c.in_err-worker.ensures.none)
