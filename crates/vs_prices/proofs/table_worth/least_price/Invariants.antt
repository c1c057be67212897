use Rattle.std.proofs.Common.{◌≡◌, neg_ℤ, ◌≤ℤ◌, IfSome}
use Rattle.vs_prices.proofs.RunningTotals.{minimum}
use Rattle.vs_prices.proofs.SetPrices.{prices_below}
use Rattle.vs_prices.specs.declared.table_worth.TheConstants.{MAX_TRIP_PRICE}
use Rattle.vs_prices.proofs.table_worth.least_price.Given as goal

-- the least so far is that of the layers of the set below this one
abbrev pub invariant-loop-l : goal.invariant-loop-l
invariant-loop-l l = record {
  value : l.least ≡ minimum (prices_below l.instance l.table l.i.0 l.set l.l);
  limits : IfSome l.least (λ n. (neg_ℤ MAX_TRIP_PRICE ≤ℤ n) × (n ≤ℤ MAX_TRIP_PRICE));
}
