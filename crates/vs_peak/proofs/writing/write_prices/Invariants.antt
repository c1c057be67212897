use Rattle.std.proofs.Common.{map, take}
use Rattle.vs_peakcheck.specs.PeakRows.{price_rows}
use Rattle.vs_peak.specs.Writing.{AddsPeakRows}
use Rattle.vs_peak.proofs.writing.write_prices.Given as goal

-- the prices so far are written
abbrev pub invariant-loop-k : goal.invariant-loop-k
invariant-loop-k l = AddsPeakRows l.names
    (price_rows l.l.0 (map (λ i. i.0) (take l.k l.trips)) (take l.k l.table.into.items) (take l.k l.table.from.items))
    l.initial.text l.text
