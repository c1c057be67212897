use Rattle.vs_peakcheck.proofs.rows.PricedRows.{PricesSoFar}
use Rattle.vs_peakcheck.proofs.reading.prices.read_prices.Given as goal

abbrev pub invariant-loop-k : goal.invariant-loop-k
invariant-loop-k l = PricesSoFar l.input l.at l.l.0 l.k l.row l.all.into.items l.all.from.items
