use Rattle.std.proofs.Common.{ℕ, ◌<◌, pos, get_or}
use Rattle.vs_path.specs.Residual.{IsWithin}
use Rattle.vs_circ.specs.declared.settling.TheConstants.{MAX_KEPT_PRICE}
use Rattle.vs_circ.proofs.settling.are_kept_prices.Given as goal

abbrev pub invariant-loop-price : goal.invariant-loop-price
invariant-loop-price l = (i : ℕ) → i < l.price-index → IsWithin MAX_KEPT_PRICE (get_or l.prices i (pos 0))
