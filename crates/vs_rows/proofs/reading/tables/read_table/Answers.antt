use Rattle.std.proofs.Common.{◌+◌, arith}
use Rattle.vs_rows.specs.TableReading.{IsNoTable}
use Rattle.vs_rows.proofs.tables.ErrorsPass.{err_passes}
use Rattle.vs_rows.proofs.tables.LayerReading.{layers_more, layers_wrong, of_kind, table_read}
use Rattle.vs_rows.proofs.reading.tables.read_table.Goals as goal

pub returns-in_err-next-clause-refused : goal.returns-in_err-next-clause-refused
returns-in_err-next-clause-refused c =
    err_passes _ (IsNoTable c.args.input.now c.args.at c.args.before) c.from_residual-in_err-next.ensures.1
    (layers_wrong c.args.input.now c.args.at c.loop-l.l c.loop-l.next c.args.before _ c.in_ok-ray.ray c.loop-l.table
    _ c.in_ok-ray.ensures.found c.loop-l.invariant c.in_err-next.ensures.refused)

pub loop-l-preserved : goal.loop-l-preserved
loop-l-preserved c =
    layers_more c.args.input.now (c.args.at + 1) c.loop-l.l c.loop-l.next c.in_ok-next.next c.in_ok-table.table.ray
    c.loop-l.table c.read_layer.new.table c.loop-l.invariant
    (omega (arith, c.loop-l-test.true, c.layers-l-end.ensures.count)) c.in_ok-next.ensures.found

pub returns-clause-found : goal.returns-clause-found
returns-clause-found c =
    table_read c.args.input.now c.args.at c.loop-l.l c.loop-l.next c.args.before c.in_ok-ray.ray c.loop-l.table
    c.in_ok-ray.ensures.found
    (of_kind c.args.input.now (c.args.at + 1) c.loop-l.l c.loop-l.next _ c.in_ok-ray.ray c.loop-l.table
    c.in_ok-table.ensures.ray_is c.loop-l.invariant) (omega (arith, c.loop-l-test.false, c.layers-l-end.ensures.count))
