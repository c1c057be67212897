-- What the sign rule says of steps after one another.
use Rattle.std.proofs.Common.{◌≡◌, ℕ, List, [], ◌∷◌, ap, arith, ℤ, ◌+ℤ◌, ◌≤ℤ◌}
use Rattle.std.proofs.lemmas.Int.{ints}
use Rattle.vs_queue.specs.declared.step.Step.{Step}
use Rattle.vs_path.specs.Residual.{ResidualNet, HasSignRule, Leads, cost_along, from_of, to_of, price_at}
use Rattle.vs_path.specs.Laws.{SignRuleLeavesNoNegativeCycle}

module _ (r : ResidualNet) (prices : List ℤ) (sign : HasSignRule r prices) where
  -- steps cost no less than the price of the node that they reach is above that of the node that they leave
  price-along : (ss : List Step) (u v : ℕ) → Leads r u ss v
      → price_at prices v ≤ℤ (cost_along r ss +ℤ price_at prices u)
  price-along [] u v leads =
      let same : price_at prices u ≡ price_at prices v = ap (price_at prices) leads in
      omega (arith, ints, same)
  price-along (s ∷ ss) u v leads =
      let before = price-along ss u (from_of r s) leads.2 in
      let kept = sign s leads.0 in
      let same : price_at prices (to_of r s) ≡ price_at prices v = ap (price_at prices) leads.1 in
      omega (arith, ints, before, kept, same)

pub no-negative-cycle : SignRuleLeavesNoNegativeCycle
no-negative-cycle r prices sign v ss leads =
    let up = price-along r prices sign ss v v leads in omega (arith, ints, up)
