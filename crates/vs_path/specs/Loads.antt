-- Arcs that carry units, in lists by the node that they reach.
use Rattle.std.specs.Prelude.{◌≡◌, ℕ, ◌<◌, List, [], length, map, slice_index, slice_index_or, true}
use Rattle.vs_layer.specs.Graph.{Graph, arc_of}
use Rattle.vs_path.specs.declared.loads.Loads.{Loads}
use Rattle.vs_path.specs.declared.residual.Way.{Way}
use Rattle.vs_path.specs.Residual.{ResidualNet, IsOpen, arc_no, from_of, step_along}

abbrev pub lists_in : Loads → List (List ℕ)
lists_in l = map (λ list. list.items) l.lists.items

-- the arcs that are listed at a node
abbrev pub listed_at : List (List ℕ) → ℕ → List ℕ
listed_at lists v = slice_index_or lists v []

abbrev pub IsIn : List ℕ → ℕ → Type 0
IsIn ks k = (i : ℕ) × (i < length ks) × (slice_index ks i ≡ k)

-- the arc is listed at the node that it reaches
abbrev pub IsListed : Graph → List (List ℕ) → ℕ → Type 0
IsListed g lists k = IsIn (listed_at lists (arc_of g k).to) k

-- at each node stand arcs that reach it
pub record AreByNode (g : Graph) (lists : List (List ℕ)) : Type 0 where
  pub nodes : length lists ≡ g.nodes
  pub reach : (v k : ℕ) → IsIn (listed_at lists v) k → (k < length g.arcs) × ((arc_of g k).to ≡ v)

-- so do, unless there was no memory for some, all that carry units
pub record AreLoads (g : Graph) (units : List ℕ) (l : Loads) : Type 0 where
  pub by_node : AreByNode g (lists_in l)
  pub all : l.complete ≡ true → (k : ℕ) → k < length g.arcs → 0 < slice_index units k → IsListed g (lists_in l) k

-- among these arcs, which steps of this kind leave node v along, are all by which a unit may leave it so
pub record AreAlong (r : ResidualNet) (way : Way) (v : ℕ) (ks : List ℕ) : Type 0 where
  pub each : (i : ℕ) → i < length ks
      → (arc_no (step_along way (slice_index ks i)) < length r.graph.arcs)
      × (from_of r (step_along way (slice_index ks i)) ≡ v)
  pub all : (k : ℕ) → IsOpen r (step_along way k) → from_of r (step_along way k) ≡ v → IsIn ks k
