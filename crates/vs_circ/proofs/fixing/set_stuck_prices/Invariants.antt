use Rattle.std.proofs.Common.{◌≡◌, ◌≢◌, ℕ, ◌<◌, get_or, pos, neg_ℤ}
use Rattle.vs_path.specs.Residual.{price_at}
use Rattle.vs_circ.proofs.fixing.set_stuck_prices.Given as goal

-- the first so many nodes are marked, and no others
abbrev pub invariant-loop-i : goal.invariant-loop-i
invariant-loop-i l = record {
  stuck : (j : ℕ) → j < l.i → price_at l.prices (get_or l.stuck j 0) ≡ neg_ℤ (pos 1);
  others : (v : ℕ) → ((j : ℕ) → j < l.i → get_or l.stuck j 0 ≢ v) → price_at l.prices v ≡ pos 0;
}
