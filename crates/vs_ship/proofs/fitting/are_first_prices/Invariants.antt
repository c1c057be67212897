use Rattle.std.proofs.Common.{ℕ, ◌<◌, pos, get_or}
use Rattle.vs_path.specs.Residual.{IsWithin}
use Rattle.vs_ship.specs.declared.shipment.TheConstants.{MAX_FIRST_PRICE}
use Rattle.vs_ship.proofs.fitting.are_first_prices.Given as goal

abbrev pub invariant-loop-price : goal.invariant-loop-price
invariant-loop-price l = (i : ℕ) → i < l.price-index → IsWithin MAX_FIRST_PRICE (get_or l.prices i (pos 0))
