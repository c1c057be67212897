use Rattle.std.proofs.Common.{length}
use Rattle.vs_prices.specs.Bounds.{IsNoLess}
use Rattle.vs_prices.specs.Worth.{IsWorth}
use Rattle.vs_multi.specs.Raising.{AreBids, IsCostTable}
use Rattle.vs_multi.proofs.raising.sweep.Given as goal

-- the table is worth what is said, and no less than at first
abbrev pub invariant-loop-l : goal.invariant-loop-l
invariant-loop-l l = record {
  lawful : IsCostTable l.case.instance.now l.table;
  worth : IsWorth l.case.instance.now l.case.sets.now l.table l.least;
  no_less : IsNoLess l.least l.fn.least;
  bids : AreBids (length l.case.instance.now.trips) l.bids;
}
