-- The flaw of a leaf is none exactly where its table is worth at least the printed bound.
use Rattle.std.proofs.Common.{ℕ, refl, Option, Some, None as nothing, ℤ}
use Rattle.vs_types.proofs.CallerLemmas.{less_not, not_less}
use Rattle.vs_instance.proofs.CallerLemmas.{None, false_from_none, none_from_false}
use Rattle.vs_prices.specs.Worth.{Reaches}
use Rattle.vs_prices.specs.declared.bound.Bound.{Bound}
use Rattle.vs_prices.specs.declared.bound.Bound.TheVariants.{AtLeast, NoPlan}
use Rattle.vs_check.specs.Flaws.{leaf_flaws}

pub reaches_from_none : (position : ℕ) (worth : Bound) (bound : Option ℤ) → None (leaf_flaws position worth bound)
    → Reaches worth bound
reaches_from_none position NoPlan bound none = tt
reaches_from_none position (AtLeast n) nothing none = cc
reaches_from_none position (AtLeast n) (Some bound) none = not_less n bound (false_from_none _ _ none)

pub none_from_reaches : (position : ℕ) (worth : Bound) (bound : Option ℤ) → Reaches worth bound
    → None (leaf_flaws position worth bound)
none_from_reaches position NoPlan bound reaches = refl
none_from_reaches position (AtLeast n) nothing reaches = absurd reaches
none_from_reaches position (AtLeast n) (Some bound) reaches = none_from_false _ _ (less_not n bound reaches)
