-- Bounds in their order.
use Rattle.std.proofs.Common.{arith, ℤ, Option, Some, None}
use Rattle.std.proofs.lemmas.Int.{ints}
use Rattle.vs_prices.specs.Bounds.{IsBelow, IsNoLess}
use Rattle.vs_prices.specs.declared.bound.Bound.{Bound}
use Rattle.vs_prices.specs.declared.bound.Bound.TheVariants.{AtLeast, NoPlan}

-- a bound that is no less than one that isn't below a cost isn't either
pub not_below : (a b : Bound) (cost : Option ℤ) → IsNoLess a b → ¬ (IsBelow b cost) → ¬ (IsBelow a cost)
not_below NoPlan b cost no_less not below = below
not_below (AtLeast x) NoPlan cost no_less not below = no_less
not_below (AtLeast x) (AtLeast y) None no_less not below = not tt
not_below (AtLeast x) (AtLeast y) (Some c) no_less not below = not (omega (arith, ints, no_less, below))
