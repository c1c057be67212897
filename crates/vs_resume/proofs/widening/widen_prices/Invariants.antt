use Rattle.std.proofs.Common.{◌≡◌, ℕ, ◌<◌, ◌≤◌, length}
use Rattle.std.specs.List.{All}
use Rattle.vs_instance.specs.HoldingTable.{price_of}
use Rattle.vs_prices.specs.Table.{IsPrice}
use Rattle.vs_resume.specs.Widened.{IsSettled, place_of}
use Rattle.vs_resume.proofs.widening.widen_prices.Given as goal

-- the layers before are widened, and the others are as they were
abbrev pub invariant-loop-l : goal.invariant-loop-l
invariant-loop-l l = record {
  size : length l.prices ≡ length l.fn.prices;
  prices : All IsPrice l.prices;
  before : (k i : ℕ) → k < l.l → i < length l.instance.trips
      → IsSettled l.instance l.sets k i l.price (price_of l.fn.prices (place_of l.instance k i))
      (price_of l.prices (place_of l.instance k i));
  after : (k i : ℕ) → l.l ≤ k → i < length l.instance.trips
      → price_of l.prices (place_of l.instance k i) ≡ price_of l.fn.prices (place_of l.instance k i);
}
