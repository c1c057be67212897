use Rattle.vs_rows.proofs.tables.PriceReading.{PricesSoFar}
use Rattle.vs_rows.proofs.reading.tables.read_prices.Given as goal

abbrev pub invariant-loop-i : goal.invariant-loop-i
invariant-loop-i l = PricesSoFar l.input l.at l.l.0 l.i l.next l.initial.table l.table
