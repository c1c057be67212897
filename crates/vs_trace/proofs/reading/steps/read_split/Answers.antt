use Rattle.std.proofs.Common.{[]}
use Rattle.vs_rows.proofs.CallerLemmas.{err_passes}
use Rattle.vs_trace.specs.Places.{InTable}
use Rattle.vs_trace.specs.Reading.{IsRefusedAt}
use Rattle.vs_trace.proofs.StepReading.{read_split, refused_split}
use Rattle.vs_trace.proofs.reading.steps.read_split.Goals as goal

pub returns-in_err-table-clause-refused : goal.returns-in_err-table-clause-refused
returns-in_err-table-clause-refused c =
    let s = c.args.split in
    err_passes _ (IsRefusedAt c.args.input.now c.args.row (InTable c.args.before [])) c.from_residual.ensures.1
    (refused_split c.args.input.now c.args.row c.args.before c.requires.before s.worker s.spot s.trip s.left _
    c.requires.says c.in_err-table.ensures.refused)

pub returns-clause-found : goal.returns-clause-found
returns-clause-found c =
    let s = c.args.split in
    read_split c.args.input.now c.args.row c.args.before c.requires.before s.worker s.spot c.in_ok-table.next s.trip
    s.left c.in_ok-table.table c.requires.says c.in_ok-table.ensures.found
