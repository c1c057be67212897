use Rattle.vs_rows.specs.DocumentRows.{BlockRow}
use Rattle.vs_plan.specs.Blocks.{pair_of}
use Rattle.vs_rows.proofs.CallerLemmas.{out_of_order}
use Rattle.vs_peakcheck.specs.PeakRefusals.{peaks}
use Rattle.vs_peakcheck.specs.PeakRows.{PartRow}
use Rattle.vs_peakcheck.specs.Places.{AtBlocks}
use Rattle.vs_peakcheck.proofs.problem.CountedRows.{block_out_of_order}
use Rattle.vs_peakcheck.proofs.reading.blocks.block_at.Goals as goal

pub returns-in_default-clause-refused : goal.returns-in_default-clause-refused
returns-in_default-clause-refused c =
    let input = c.args.input.now in
    let row = c.args.row in
    let l = c.args.l in
    let b = pair_of c.args.block.now in
    let none = rw c.in_default.is at c.in_ok-counted.ensures.none in
    rw c.refusal.ensures
    (λ count. out_of_order peaks input row c.requires.row (AtBlocks l.0 count) (PartRow (BlockRow b))
    (tt, c.requires.block) tt (λ e. cc) (block_out_of_order input row l count count b none))
