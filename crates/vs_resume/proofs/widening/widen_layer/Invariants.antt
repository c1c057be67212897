use Rattle.std.proofs.Common.{◌≡◌, ◌≢◌, ℕ, ◌<◌, ◌≤◌, length}
use Rattle.std.specs.List.{All}
use Rattle.vs_instance.specs.HoldingTable.{price_of}
use Rattle.vs_prices.specs.Table.{IsPrice}
use Rattle.vs_resume.specs.Widened.{IsSettled, place_of}
use Rattle.vs_resume.proofs.widening.widen_layer.Given as goal

-- the trips before are settled, and the others are as they were
abbrev pub invariant-loop-i : goal.invariant-loop-i
invariant-loop-i l = record {
  size : length l.prices ≡ length l.fn.prices;
  prices : All IsPrice l.prices;
  before : (j : ℕ) → j < l.i
      → IsSettled l.instance l.sets l.l.0 j l.price (price_of l.fn.prices (place_of l.instance l.l.0 j))
      (price_of l.prices (place_of l.instance l.l.0 j));
  after : (j : ℕ) → l.i ≤ j
      → price_of l.prices (place_of l.instance l.l.0 j) ≡ price_of l.fn.prices (place_of l.instance l.l.0 j);
  others : (k j : ℕ) → k ≢ l.l.0 → j < length l.instance.trips
      → price_of l.prices (place_of l.instance k j) ≡ price_of l.fn.prices (place_of l.instance k j);
}
