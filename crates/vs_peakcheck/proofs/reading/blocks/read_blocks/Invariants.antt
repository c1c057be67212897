use Rattle.vs_plan.specs.Blocks.{pairs_of}
use Rattle.vs_peakcheck.proofs.problem.CountedRows.{BlocksSoFar}
use Rattle.vs_peakcheck.proofs.reading.blocks.read_blocks.Given as goal

abbrev pub invariant-loop-row : goal.invariant-loop-row
invariant-loop-row l = BlocksSoFar l.input l.at l.l l.fn.count l.row (pairs_of l.blocks.items)
