use Rattle.std.proofs.Common.{◌≡◌, ◌<◌, ◌++◌, ◌∷◌, [], ap, ◌∙◌, arith, length}
use Rattle.std.proofs.lemmas.List.{map_push}
use Rattle.vs_plan.specs.Blocks.{pair_of, pairs_of}
use Rattle.vs_peakcheck.specs.Places.{AtBlocks}
use Rattle.vs_peakcheck.specs.Reading.{IsRefusedAt}
use Rattle.vs_rows.proofs.CallerLemmas.{err_passes}
use Rattle.vs_peakcheck.proofs.rows.PricedRows.{passes}
use Rattle.vs_peakcheck.proofs.problem.CountedRows.{one_more_block}
use Rattle.vs_peakcheck.proofs.reading.blocks.read_blocks.Goals as goal

pub returns-in_err-counted-clause-refused : goal.returns-in_err-counted-clause-refused
returns-in_err-counted-clause-refused c =
    let place = AtBlocks c.args.l.0 c.args.count in
    err_passes _ (IsRefusedAt c.args.input.now c.args.at place) c.from_residual-in_err-counted.ensures.1
    (passes c.args.input.now _ c.loop-row.invariant.reads.lead (c.in_err-counted.ensures.refused c.args.count))

pub loop-row-preserved : goal.loop-row-preserved
loop-row-preserved c =
    let input = c.args.input.now in
    let row = c.loop-row.row in
    let lt : row < length input.rest = omega (arith, c.loop-row-test.true, c.len-row-end.ensures) in
    let blocks = c.loop-row.blocks.items in
    let pushed : pairs_of c.push.new.self.items ≡ pairs_of blocks ++ pair_of c.in_ok-counted.counted ∷ [] =
    ap pairs_of c.in_ok-push.ensures.items ∙ map_push pair_of blocks c.in_ok-counted.counted in
    let says = rw c.in-Some.is at c.in_ok-block.ensures.found in
    one_more_block input c.args.at c.args.l c.args.count row (pairs_of blocks) _ (pair_of c.in-Some.block)
    (pair_of c.in_ok-counted.counted) c.loop-row.invariant c.if-is_none.ensures lt says
    c.in_ok-counted.ensures.found pushed
