use Rattle.std.proofs.Common.{◌<◌, length, refl, arith}
use Rattle.vs_rows.proofs.CallerLemmas.{bad_row}
use Rattle.vs_peakcheck.specs.PeakRefusals.{peaks}
use Rattle.vs_peakcheck.proofs.rows.PriceKinds.{no_row}
use Rattle.vs_peakcheck.proofs.reading.said.said_at.Goals as goal

pub returns-then-is_end-clause-says : goal.returns-then-is_end-clause-says
returns-then-is_end-clause-says c = (tt, c.if-is_end.ensures.found refl c.args.input.now.names)

pub returns-in-None-clause-refused : goal.returns-in-None-clause-refused
returns-in-None-clause-refused c =
    let input = c.args.input.now in
    let lt : c.args.row < length input.rest = omega (arith, c.if-row-len.false, c.len.ensures) in
    let none = rw c.in-None.is at c.in_ok-block.ensures.none in
    λ place going. rw c.refusal-in-None.ensures
    (bad_row peaks input c.args.row lt
    (no_row input c.args.row c.in_default.ensures.none c.in_default-count.ensures.none
    (c.if-is_end.ensures.none refl input.names) none)
    place going)
