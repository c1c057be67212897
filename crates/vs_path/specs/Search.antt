-- What a search for a node that lacks a unit finds.
use Rattle.std.specs.Prelude.{◌≡◌, ◌⊎◌, ℕ, ◌*◌, ◌<◌, List, length, slice_index, Option, Some, None, ℤ, pos, ◌+ℤ◌, ◌-ℤ◌, ◌≤ℤ◌, FitsSigned}
use mir.Syntax.{w64}
use Rattle.vs_queue.specs.declared.step.Step.{Step}
use Rattle.vs_queue.specs.declared.node_table.Settled.{Settled}
use Rattle.vs_path.specs.StepCosts.{most_step}
use Rattle.vs_path.specs.Residual.{ResidualNet, HasSignRule, IsOpen, IsPath, from_of, to_of, price_at, reduced, step_in}
use Rattle.vs_path.specs.Labels.{Lists, Lacks, settled_at}

-- for so many nodes, the path that was found last, and the nodes that were reached then
pub record Outcome : Type 0 where
  pub nodes : ℕ
  pub path : List Step
  pub reached : List ℕ

abbrev pub IsIn : List ℕ → ℕ → Type 0
IsIn nodes v = (i : ℕ) × (i < length nodes) × (slice_index nodes i ≡ v)

-- these nodes have the source among them, no residual step leaves them, and none of them lacks a unit
pub record IsCut (r : ResidualNet) (surplus : List ℤ) (source : ℕ) (nodes : List ℕ) : Type 0 where
  pub has_source : IsIn nodes source
  pub closed : (s : Step) → IsOpen r s → IsIn nodes (from_of r s) → IsIn nodes (to_of r s)
  pub no_lack : (v : ℕ) → IsIn nodes v → ¬ (Lacks surplus v)

-- the most that two paths cost together
abbrev pub two_paths : ResidualNet → ℤ
two_paths r = pos (2 * r.graph.nodes * most_step r.graph.nodes)

-- The goal lacks a unit, and the path leads to it from the source. The prices keep the sign rule and make the steps of
-- the path cost nothing. They only fell, not where a unit is lacked, and none further than two paths cost below that
-- of the goal.
pub record IsGoal (r : ResidualNet) (surplus : List ℤ) (source : ℕ) (old new : List ℤ) (path : List Step) (goal : ℕ)
    : Type 0 where
  pub lacks : Lacks surplus goal
  pub is_path : IsPath r source path goal
  pub sign_rule : HasSignRule r new
  pub tight : (i : ℕ) → i < length path → reduced r new (step_in path i) ≡ pos 0
  pub fell : (v : ℕ) → price_at new v ≤ℤ price_at old v
  pub kept : (v : ℕ) → Lacks surplus v → price_at new v ≡ price_at old v
  pub not_far : (v : ℕ) → (price_at new v ≡ price_at old v) ⊎ (price_at old goal ≤ℤ (price_at new v +ℤ two_paths r))

-- the price of a node once the farthest node was settled at this distance
abbrev pub moved : Option Settled → ℤ → ℤ → ℤ
moved None farthest price = price
moved (Some a) farthest price = price -ℤ (farthest -ℤ a.distance)

abbrev pub AreMoved : Lists → ℤ → List ℤ → List ℤ → Type 0
AreMoved l farthest old new = (v : ℕ) → price_at new v ≡ moved (settled_at l v) farthest (price_at old v)

-- a step of the tree of least paths
pub record IsTreeStep (r : ResidualNet) (prices : List ℤ) (l : Lists) (s : Step) : Type 0 where
  pub from : Settled
  pub from_is : settled_at l (from_of r s) ≡ Some from
  pub to : Settled
  pub to_is : settled_at l (to_of r s) ≡ Some to
  pub sum : to.distance ≡ from.distance +ℤ reduced r prices s

abbrev pub AreTreeSteps : ResidualNet → List ℤ → Lists → List Step → Type 0
AreTreeSteps r prices l path = (i : ℕ) → i < length path → IsTreeStep r prices l (step_in path i)

-- what is settled can be lowered so without passing 64 bits
abbrev pub CanMove : Lists → ℤ → List ℤ → Type 0
CanMove l farthest prices = (v : ℕ) (a : Settled) → settled_at l v ≡ Some a
    → FitsSigned w64 (farthest -ℤ a.distance) × FitsSigned w64 (price_at prices v -ℤ (farthest -ℤ a.distance))
