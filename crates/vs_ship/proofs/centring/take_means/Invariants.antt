use Rattle.std.proofs.Common.{ℕ, ℤ, pos}
use Rattle.vs_path.specs.Residual.{price_at}
use Rattle.vs_ship.specs.Centring.{IsMean}
use Rattle.vs_ship.proofs.prices.Overwritten.{AreWritten}
use Rattle.vs_ship.proofs.centring.take_means.Given as goal

abbrev pub invariant-loop-v : goal.invariant-loop-v
invariant-loop-v l =
    AreWritten (pos 0) (λ (v : ℕ) (z : ℤ). IsMean (price_at l.low v) (price_at l.fn.prices v) z) l.fn.prices l.prices
    l.v
