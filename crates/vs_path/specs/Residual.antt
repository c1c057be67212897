-- Steps along the arcs of a net on which units can still be sent or taken back.
use Rattle.std.specs.Prelude.{◌≡◌, ◌≢◌, ℕ, ◌<◌, ◌≤◌, List, [], ◌∷◌, length, slice_index, slice_index_or, ℤ, pos, neg_ℤ, ◌+ℤ◌, ◌-ℤ◌, ◌≤ℤ◌}
use Rattle.vs_layer.specs.Graph.{Graph, IsNet, arc_of, heads, leaving, reaching}
use Rattle.vs_queue.specs.declared.step.Step.{Step}
use Rattle.vs_queue.specs.declared.step.Step.TheVariants.{Forward, Back}
use Rattle.vs_path.specs.declared.residual.Way.{Way}
use Rattle.vs_path.specs.declared.residual.Way.TheVariants as way

-- a net, the units that its arcs carry, what a unit costs on each, and how many each has room for; the first so many
-- arcs may be used
pub record ResidualNet : Type 0 where
  pub graph : Graph
  pub units : List ℕ
  pub cost : List ℤ
  pub room : List ℕ
  pub arcs : ℕ

pub record IsResidual (r : ResidualNet) : Type 0 where
  pub net : IsNet r.graph
  pub units : length r.units ≡ length r.graph.arcs
  pub cost : length r.cost ≡ length r.graph.arcs
  pub room : length r.room ≡ length r.graph.arcs
  pub arcs : r.arcs ≤ length r.graph.arcs

-- by arc the node that it reaches
abbrev pub AreHeads : Graph → List ℕ → Type 0
AreHeads g vs = vs ≡ heads g

-- the step that goes this way along an arc
abbrev pub step_along : Way → ℕ → Step
step_along way.Forward k = Forward k
step_along way.Back k = Back k

-- the numbers of the arcs along which such steps leave node v, in order
abbrev pub arcs_along : Graph → Way → ℕ → List ℕ
arcs_along g way.Forward v = leaving g v
arcs_along g way.Back v = reaching g v

abbrev pub arc_no : Step → ℕ
arc_no (Forward k) = k
arc_no (Back k) = k

-- the node that a step leaves, and the one that it reaches
abbrev pub from_of : ResidualNet → Step → ℕ
from_of r (Forward k) = (arc_of r.graph k).from
from_of r (Back k) = (arc_of r.graph k).to

abbrev pub to_of : ResidualNet → Step → ℕ
to_of r (Forward k) = (arc_of r.graph k).to
to_of r (Back k) = (arc_of r.graph k).from

-- what a step costs: a unit taken back gives back what it cost
abbrev pub cost_of : ResidualNet → Step → ℤ
cost_of r (Forward k) = slice_index_or r.cost k (pos 0)
cost_of r (Back k) = neg_ℤ (slice_index_or r.cost k (pos 0))

-- there is room for a unit more, or a unit to take back
abbrev pub HasRoom : ResidualNet → Step → Type 0
HasRoom r (Forward k) = slice_index r.units k < slice_index r.room k
HasRoom r (Back k) = 0 < slice_index r.units k

-- a residual step
pub record IsOpen (r : ResidualNet) (s : Step) : Type 0 where
  pub arc : arc_no s < r.arcs
  pub room : HasRoom r s

-- the price of a node
abbrev pub price_at : List ℤ → ℕ → ℤ
price_at prices v = slice_index_or prices v (pos 0)

-- what a step costs, with the price of the node that it leaves, less that of the node that it reaches
abbrev pub reduced : ResidualNet → List ℤ → Step → ℤ
reduced r prices s = (cost_of r s +ℤ price_at prices (from_of r s)) -ℤ price_at prices (to_of r s)

-- no residual step has a negative reduced cost
abbrev pub HasSignRule : ResidualNet → List ℤ → Type 0
HasSignRule r prices = (s : Step) → IsOpen r s → pos 0 ≤ℤ reduced r prices s

-- a number is at most so far from 0
pub record IsWithin (bound z : ℤ) : Type 0 where
  pub low : neg_ℤ bound ≤ℤ z
  pub high : z ≤ℤ bound

abbrev pub AllWithin : ℤ → List ℤ → Type 0
AllWithin bound zs = (i : ℕ) → IsWithin bound (slice_index_or zs i (pos 0))

-- The steps lead from node u to node v, the last of them first, each of them residual and from the node that the one
-- before it reaches. No step at all leads from a node to itself.
abbrev pub Leads : ResidualNet → ℕ → List Step → ℕ → Type 0
Leads r u [] v = u ≡ v
Leads r u (s ∷ ss) v = IsOpen r s × (to_of r s ≡ v) × Leads r u ss (from_of r s)

-- what one unit costs along the steps
abbrev pub cost_along : ResidualNet → List Step → ℤ
cost_along r [] = pos 0
cost_along r (s ∷ ss) = cost_along r ss +ℤ cost_of r s

abbrev pub step_in : List Step → ℕ → Step
step_in ss i = slice_index_or ss i (Forward 0)

-- the steps lead from u to v and come to no node twice
pub record IsPath (r : ResidualNet) (u : ℕ) (ss : List Step) (v : ℕ) : Type 0 where
  pub leads : Leads r u ss v
  pub apart : (i j : ℕ) → i < j → j < length ss → to_of r (step_in ss i) ≢ to_of r (step_in ss j)
  pub away : (i : ℕ) → i < length ss → to_of r (step_in ss i) ≢ u
