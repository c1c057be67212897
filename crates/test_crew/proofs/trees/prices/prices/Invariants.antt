use Rattle.std.proofs.Common.{◌≡◌, All, length}
use Rattle.vs_prices.specs.Table.{IsPrice}
use Rattle.test_crew.proofs.trees.prices.prices.Given as goal

abbrev pub invariant-loop-n : goal.invariant-loop-n
invariant-loop-n l = record {
  prices : All IsPrice l.prices.items;
  size : length l.prices.items ≡ l.n-index;
}
