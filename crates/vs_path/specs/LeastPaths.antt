-- Least paths from a node by residual steps.
use Rattle.std.specs.Prelude.{Bool, true, false, ◌≡◌, ◌↔◌, ◌⊎◌, ℕ, ◌<◌, List, [], ◌∷◌, length, slice_index_or, Option, Some, None, ℤ, ◌+ℤ◌, ◌-ℤ◌, ◌≤ℤ◌, FitsSigned}
use mir.Syntax.{w64}
use Rattle.vs_queue.specs.declared.step.Step.{Step}
use Rattle.vs_queue.specs.declared.step.Step.TheVariants.{Forward, Back}
use Rattle.vs_queue.specs.declared.node_table.Settled.{Settled}
use Rattle.vs_path.specs.Residual.{ResidualNet, IsOpen, Leads, cost_along, from_of, to_of, price_at}
use Rattle.vs_path.specs.Labels.{Lists, settled_at, step_at}

-- by node the least cost of a path to it, and the last step of such a path
pub record LeastPaths : Type 0 where
  pub distances : List (Option ℤ)
  pub steps : List (Option Step)

abbrev pub distance_at : LeastPaths → ℕ → Option ℤ
distance_at p v = slice_index_or p.distances v None

abbrev pub last_step : LeastPaths → ℕ → Option Step
last_step p v = slice_index_or p.steps v None

-- a step by its arc, and whether it goes forward
abbrev pub arc_and_way : Option Step → Option (ℕ × Bool)
arc_and_way None = None
arc_and_way (Some (Forward k)) = Some (k, true)
arc_and_way (Some (Back k)) = Some (k, false)

-- the least cost of residual steps from node u to node v: None exactly where there are none
abbrev pub IsLeastCost : ResidualNet → ℕ → ℕ → Option ℤ → Type 0
IsLeastCost r u v None = (ss : List Step) → ¬ (Leads r u ss v)
IsLeastCost r u v (Some c) =
    ((ss : List Step) × Leads r u ss v × (cost_along r ss ≡ c))
    × ((ss : List Step) → Leads r u ss v → c ≤ℤ cost_along r ss)

-- the steps, followed back from node v, are these, and lead from node u
abbrev pub FollowsBack : ResidualNet → List (Option Step) → ℕ → List Step → ℕ → Type 0
FollowsBack r steps u [] v = u ≡ v
FollowsBack r steps u (s ∷ ss) v =
    (slice_index_or steps v None ≡ Some s) × IsOpen r s × (to_of r s ≡ v) × FollowsBack r steps u ss (from_of r s)

-- where there is a path to node v, the steps followed back from it are one of the least cost
abbrev pub ComesBack : ResidualNet → List (Option Step) → ℕ → ℕ → Option ℤ → Type 0
ComesBack r steps u v None = Unit {0}
ComesBack r steps u v (Some c) = (ss : List Step) × FollowsBack r steps u ss v × (cost_along r ss ≡ c)

pub record IsSized (nodes : ℕ) (p : LeastPaths) : Type 0 where
  pub distances : length p.distances ≡ nodes
  pub steps : length p.steps ≡ nodes

pub record AreLeastPaths (r : ResidualNet) (u : ℕ) (p : LeastPaths) : Type 0 where
  pub size : IsSized r.graph.nodes p
  pub least : (v : ℕ) → v < r.graph.nodes → IsLeastCost r u v (distance_at p v)
  pub back : (v : ℕ) → v < r.graph.nodes → ComesBack r p.steps u v (distance_at p v)
  pub no_step : (v : ℕ) → v < r.graph.nodes → (last_step p v ≡ None) ↔ ((v ≡ u) ⊎ (distance_at p v ≡ None))

-- what a settled distance is without the prices
abbrev pub cost_to : Option Settled → ℤ → ℤ → Option ℤ
cost_to None from to = None
cost_to (Some a) from to = Some (a.distance +ℤ (to -ℤ from))

abbrev pub AreCosts : Lists → List ℤ → ℕ → List (Option ℤ) → Type 0
AreCosts l prices u costs = (v : ℕ) → slice_index_or costs v None
    ≡ cost_to (settled_at l v) (price_at prices u) (price_at prices v)

-- the last step of a path to a node, where it is settled
abbrev pub if_settled : Option Settled → Option Step → Option Step
if_settled None step = None
if_settled (Some a) step = step

abbrev pub AreSettledSteps : Lists → List (Option Step) → Type 0
AreSettledSteps l steps = (v : ℕ) → slice_index_or steps v None ≡ if_settled (settled_at l v) (step_at l v)

-- it fits 64 bits
abbrev pub CanCostTo : Option Settled → ℤ → ℤ → Type 0
CanCostTo None from to = Unit {0}
CanCostTo (Some a) from to = FitsSigned w64 (to -ℤ from) × FitsSigned w64 (a.distance +ℤ (to -ℤ from))

abbrev pub CanCost : Lists → ℕ → List ℤ → Type 0
CanCost l u prices = (v : ℕ) → CanCostTo (settled_at l v) (price_at prices u) (price_at prices v)
