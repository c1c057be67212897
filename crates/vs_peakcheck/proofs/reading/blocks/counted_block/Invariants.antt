use Rattle.vs_peakcheck.proofs.problem.CountedRows.{TripsSoFar}
use Rattle.vs_peakcheck.proofs.reading.blocks.counted_block.Given as goal

abbrev pub invariant-loop-k : goal.invariant-loop-k
invariant-loop-k l = TripsSoFar l.instance l.fn.l l.block.trips.items l.counted.items l.k
