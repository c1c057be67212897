-- What a cost and a bound claim.
use Rattle.std.specs.Prelude.{if◌then◌else◌, ℤ, Option, Some, None}
use Rattle.std.specs.Ordering.{int_eq}
use Rattle.vs_prices.specs.declared.claim.Claim.{Claim}
use Rattle.vs_prices.specs.declared.claim.Claim.TheVariants.{Optimal, Infeasible, StillOpen}

-- what a cost and a bound claim together
abbrev pub claim_found : Option ℤ → Option ℤ → Claim
claim_found (Some cost) (Some bound) = if int_eq cost bound then Optimal else StillOpen
claim_found None None = Infeasible
claim_found (Some cost) None = StillOpen
claim_found None (Some bound) = StillOpen
