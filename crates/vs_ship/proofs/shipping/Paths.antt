-- What is known of each step of a path, and what a unit gains along it.
use Rattle.std.proofs.Common.{◌≡◌, ◌≢◌, ◌<◌, ℕ, zero, suc, List, [], ◌∷◌, length, refl, ap, arith, ℤ, ◌-ℤ◌}
use Rattle.std.proofs.lemmas.Int.{ints}
use Rattle.vs_queue.specs.declared.step.Step.{Step}
use Rattle.vs_queue.specs.declared.step.Step.TheVariants.{Forward, Back}
use Rattle.vs_path.specs.Residual.{ResidualNet, IsOpen, IsPath, Leads, from_of, to_of, step_in}
use Rattle.vs_ship.specs.Balance.{step_gain, steps_gain}

-- each step of a path is open
pub leads-open : (r : ResidualNet) (u : ℕ) (ss : List Step) (v : ℕ) → Leads r u ss v → (i : ℕ) → i < length ss
    → IsOpen r (step_in ss i)
leads-open r u [] v leads i within = absurd (omega arith)
leads-open r u (s ∷ ss) v leads zero within = leads.0
leads-open r u (s ∷ ss) v leads (suc i) within = leads-open r u ss (from_of r s) leads.2 i (omega arith)

-- no step comes twice
pub path-apart : (r : ResidualNet) (u : ℕ) (ss : List Step) (v : ℕ) → IsPath r u ss v → (i j : ℕ) → i < j
    → j < length ss
    → step_in ss i ≢ step_in ss j
path-apart r u ss v path i j less within same = path.apart i j less within (ap (λ (s : Step). to_of r s) same)

-- a step gains the weight of the node that it reaches, less that of the node that it leaves
step-ends : (weight : ℕ → ℤ) (r : ResidualNet) (s : Step)
    → step_gain weight r.graph.arcs s ≡ weight (to_of r s) -ℤ weight (from_of r s)
step-ends weight r (Forward k) = refl
step-ends weight r (Back k) = refl

-- so does a path
pub leads-gain : (weight : ℕ → ℤ) (r : ResidualNet) (u : ℕ) (ss : List Step) (v : ℕ) → Leads r u ss v
    → steps_gain weight r.graph.arcs ss ≡ weight v -ℤ weight u
leads-gain weight r u [] v leads = let same = ap weight leads in omega (arith, ints, same)
leads-gain weight r u (s ∷ ss) v leads =
    let here = step-ends weight r s in
    let rest = leads-gain weight r u ss (from_of r s) leads.2 in
    let end = ap weight leads.1 in
    omega (arith, ints, here, rest, end)
