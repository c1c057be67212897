-- What is known while costs are corrected arc by arc, until they are the least.
use Rattle.std.specs.Prelude.{◌≡◌, ℕ, ◌+◌, ◌*◌, ◌<◌, ◌≤◌, List, set, sum_by, Bool, true, false, Option, Some, None, ℤ, pos, ◌+ℤ◌, ◌≤ℤ◌, nat_abs}
use Rattle.vs_path.specs.declared.residual.TheConstants.{MAX_PATH_ARC_COST, MAX_PATH_NODES}
use Rattle.vs_queue.specs.declared.step.Step.{Step}
use Rattle.vs_path.specs.declared.path_tree.PathTree.{PathTree}
use Rattle.vs_path.specs.Residual.{ResidualNet, AllWithin, IsOpen, Leads, cost_along, cost_of, from_of, to_of}
use Rattle.vs_path.specs.LeastPaths.{LeastPaths, FollowsBack, IsSized, distance_at, last_step}

abbrev pub paths_of : PathTree → LeastPaths
paths_of t = record { distances = t.distances.items; steps = t.steps.items }

-- residual steps that come back to where they began cost nothing or more
abbrev pub HasNoNegativeCycle : ResidualNet → Type 0
HasNoNegativeCycle r = (v : ℕ) (ss : List Step) → Leads r v ss v → pos 0 ≤ℤ cost_along r ss

-- the costs of paths add up within 64 bits, and there are least ones
pub record CanCorrect (r : ResidualNet) : Type 0 where
  pub nodes : r.graph.nodes ≤ MAX_PATH_NODES
  pub cost : AllWithin MAX_PATH_ARC_COST r.cost
  pub no_negative : HasNoNegativeCycle r

-- the node that the step reaches costs no less than the one that it leaves, and the step
pub record IsBranch (r : ResidualNet) (p : LeastPaths) (v : ℕ) (s : Step) : Type 0 where
  pub is_open : IsOpen r s
  pub to : to_of r s ≡ v
  pub from_cost : ℤ
  pub from_is : distance_at p (from_of r s) ≡ Some from_cost
  pub to_cost : ℤ
  pub to_is : distance_at p v ≡ Some to_cost
  pub sum : (from_cost +ℤ cost_of r s) ≤ℤ to_cost

abbrev pub count_of : Option ℤ → ℕ
count_of None = 0
count_of (Some c) = 1

-- how many nodes have a cost
abbrev pub count_reached : LeastPaths → ℕ
count_reached p = sum_by count_of p.distances

-- From each node that has a cost, the steps are followed back to node u, and cost no more.
pub record IsPathTree (r : ResidualNet) (u : ℕ) (p : LeastPaths) : Type 0 where
  pub size : IsSized r.graph.nodes p
  pub root : distance_at p u ≡ Some (pos 0)
  pub no_step : last_step p u ≡ None
  pub branch : (v : ℕ) (s : Step) → last_step p v ≡ Some s → IsBranch r p v s
  pub back : (v : ℕ) (c : ℤ) → distance_at p v ≡ Some c → (ss : List Step) × FollowsBack r p.steps u ss v
  pub few : (v : ℕ) (c : ℤ) → distance_at p v ≡ Some c → c ≤ℤ pos (count_reached p * nat_abs MAX_PATH_ARC_COST)

-- once the node that the step reaches has this cost
abbrev pub shortened : LeastPaths → ℕ → ℤ → Step → LeastPaths
shortened p v label s =
    record { distances = set p.distances v (Some label); steps = set p.steps v (Some s) }

-- the step reaches no node at less than it has
abbrev pub IsNoShorter : ResidualNet → LeastPaths → Step → Type 0
IsNoShorter r p s = IsOpen r s → (c : ℤ) → distance_at p (from_of r s) ≡ Some c
    → (d : ℤ) × (distance_at p (to_of r s) ≡ Some d) × (d ≤ℤ (c +ℤ cost_of r s))

-- the most that a path costs, either way
abbrev pub MOST : ℤ
MOST = pos (MAX_PATH_NODES * nat_abs MAX_PATH_ARC_COST)

-- how far a cost can fall
abbrev pub weight_of : Option ℤ → ℕ
weight_of None = 2 * (MAX_PATH_NODES * nat_abs MAX_PATH_ARC_COST) + 1
weight_of (Some c) = nat_abs (c +ℤ MOST)

abbrev pub weight : LeastPaths → ℕ
weight p = sum_by weight_of p.distances

-- where something fell, less can fall now; else nothing changed, and these steps are no shorter
abbrev pub IsCorrected : ResidualNet → LeastPaths → LeastPaths → (Step → Type 0) → Bool → Type 0
IsCorrected r old new Which true = weight new < weight old
IsCorrected r old new Which false = (new ≡ old) × ((s : Step) → Which s → IsNoShorter r new s)
