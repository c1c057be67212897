use Rattle.std.proofs.Common.{◌≡◌, ◌<◌, ℕ, get_or, None}
use Rattle.vs_path.specs.Residual.{price_at}
use Rattle.vs_path.specs.Labels.{lists_of, settled_at}
use Rattle.vs_path.specs.LeastPaths.{cost_to}
use Rattle.vs_path.proofs.labels.Labels.least_costs.Given as goal

-- the costs so far
abbrev pub invariant-loop-v : goal.invariant-loop-v
invariant-loop-v l = (v : ℕ) → v < l.v
    → get_or l.costs v None
    ≡ cost_to (settled_at (lists_of l.self) v) (price_at l.prices l.source) (price_at l.prices v)
