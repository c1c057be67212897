use Rattle.std.proofs.Common.{◌≡◌, ◌<◌, ℕ, get_or, None}
use Rattle.vs_path.specs.Labels.{lists_of, settled_at, step_at}
use Rattle.vs_path.specs.LeastPaths.{if_settled}
use Rattle.vs_path.proofs.labels.Labels.settled_steps.Given as goal

-- the steps so far
abbrev pub invariant-loop-v : goal.invariant-loop-v
invariant-loop-v l = (v : ℕ) → v < l.v
    → get_or l.steps v None ≡ if_settled (settled_at (lists_of l.self) v) (step_at (lists_of l.self) v)
