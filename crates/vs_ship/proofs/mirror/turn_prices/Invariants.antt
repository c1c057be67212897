use Rattle.std.proofs.Common.{◌≡◌, ℕ, ℤ, pos, neg_ℤ, length}
use Rattle.vs_path.specs.Residual.{price_at}
use Rattle.vs_ship.specs.Mirror.{across}
use Rattle.vs_ship.proofs.prices.Overwritten.{AreWritten}
use Rattle.vs_ship.proofs.mirror.turn_prices.Given as goal

abbrev pub invariant-loop-v : goal.invariant-loop-v
invariant-loop-v l =
    AreWritten (pos 0) (λ (v : ℕ) (z : ℤ). z ≡ neg_ℤ (price_at l.prices (across (length l.prices) v))) l.fn.turned
    l.turned l.v
