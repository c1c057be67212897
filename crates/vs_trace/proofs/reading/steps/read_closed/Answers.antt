use Rattle.std.proofs.Common.{[]}
use Rattle.vs_rows.proofs.CallerLemmas.{err_passes}
use Rattle.vs_trace.specs.Places.{InTable}
use Rattle.vs_trace.specs.Reading.{IsRefusedAt}
use Rattle.vs_trace.proofs.StepReading.{read_closed, refused_closed}
use Rattle.vs_trace.proofs.reading.steps.read_closed.Goals as goal

pub returns-in_err-table-clause-refused : goal.returns-in_err-table-clause-refused
returns-in_err-table-clause-refused c =
    err_passes _ (IsRefusedAt c.args.input.now c.args.row (InTable c.args.before [])) c.from_residual.ensures.1
    (refused_closed c.args.input.now c.args.row c.args.before c.requires.before c.args.worker c.args.spot _
    c.requires.says c.in_err-table.ensures.refused)

pub returns-clause-found : goal.returns-clause-found
returns-clause-found c =
    read_closed c.args.input.now c.args.row c.args.before c.requires.before c.args.worker c.args.spot
    c.in_ok-table.next c.in_ok-table.table c.requires.says c.in_ok-table.ensures.found
