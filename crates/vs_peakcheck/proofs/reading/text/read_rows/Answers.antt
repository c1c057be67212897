use Rattle.std.proofs.Common.{◌<◌, arith, length}
use Rattle.vs_peakcheck.specs.Reading.{IsRefusalOf}
use Rattle.vs_rows.proofs.CallerLemmas.{err_passes}
use Rattle.vs_peakcheck.proofs.rows.PricedRows.{passes}
use Rattle.vs_peakcheck.proofs.rows.ReadLayers.{refused_behind_head}
use Rattle.vs_peakcheck.proofs.reading.text.read_rows.Goals as goal

pub returns-in_err-claimed-clause-refused : goal.returns-in_err-claimed-clause-refused
returns-in_err-claimed-clause-refused c =
    let input = c.args.input.now in
    let some : 0 < length input.rest = omega (arith, c.if-len-eq0.false, c.len.ensures) in
    err_passes _ (IsRefusalOf input) c.from_residual.ensures.1
    (refused_behind_head input some (c.is_head.ensures.0 c.if-not-is_head.false) _ c.in_err-claimed.ensures.refused)

pub returns-in_err-read_end-clause-refused : goal.returns-in_err-read_end-clause-refused
returns-in_err-read_end-clause-refused c =
    let input = c.args.input.now in
    let some : 0 < length input.rest = omega (arith, c.if-len-eq0.false, c.len.ensures) in
    err_passes _ (IsRefusalOf input) c.from_residual-in_err-read_end.ensures.1
    (refused_behind_head input some (c.is_head.ensures.0 c.if-not-is_head.false) _
    (passes input _ c.in_ok-claimed.ensures.found.reads.lead c.in_err-read_end.ensures.refused))
