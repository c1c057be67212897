-- Bounds in their order.
use Rattle.std.proofs.Common.{◌≡◌, refl, ap, arith, ℤ, ◌≤ℤ◌}
use Rattle.std.proofs.lemmas.Int.{ints}
use Rattle.vs_prices.specs.Bounds.{IsNoLess, ReachesValue}
use Rattle.vs_prices.specs.declared.bound.Bound.{Bound}
use Rattle.vs_prices.specs.declared.bound.Bound.TheVariants.{AtLeast, NoPlan}

-- a bound is no less than itself, and than what one between the two is no less than
pub no_less-refl : (a : Bound) → IsNoLess a a
no_less-refl NoPlan = tt
no_less-refl (AtLeast n) = omega (arith, ints)

pub no_less-trans : (a b c : Bound) → IsNoLess a b → IsNoLess b c → IsNoLess a c
no_less-trans NoPlan b c ab bc = tt
no_less-trans (AtLeast n) NoPlan c ab bc = absurd ab
no_less-trans (AtLeast n) (AtLeast m) NoPlan ab bc = absurd bc
no_less-trans (AtLeast n) (AtLeast m) (AtLeast k) ab bc = omega (arith, ints, ab, bc)

-- two bounds of which neither is less are the same
pub no_less-both : (a b : Bound) → IsNoLess a b → IsNoLess b a → a ≡ b
no_less-both NoPlan NoPlan one other = refl
no_less-both NoPlan (AtLeast n) one other = absurd other
no_less-both (AtLeast n) NoPlan one other = absurd one
no_less-both (AtLeast n) (AtLeast m) one other = let same : n ≡ m = omega (arith, ints) in ap AtLeast same

else_below : (m n : ℤ) → ¬ (m ≤ℤ n) → n ≤ℤ m
else_below m n never = grind (arith, ints)

-- of two bounds of which the one isn't no less than the other, the other is no less
pub else_no_less : (a b : Bound) → ¬ (IsNoLess a b) → IsNoLess b a
else_no_less NoPlan b never = absurd (never tt)
else_no_less (AtLeast n) NoPlan never = tt
else_no_less (AtLeast n) (AtLeast m) never = else_below m n never

-- a bound that is no less than one that reaches a value does
pub reaches_more : (a b : Bound) (value : ℤ) → IsNoLess a b → ReachesValue b value → ReachesValue a value
reaches_more NoPlan b value no_less reaches = tt
reaches_more (AtLeast x) NoPlan value no_less reaches = absurd no_less
reaches_more (AtLeast x) (AtLeast y) value no_less reaches = omega (arith, ints, no_less, reaches)
