-- Arcs one after another.
use Rattle.std.specs.Prelude.{◌≡◌, ℕ, ◌<◌, List, [], ◌∷◌, length, Option, Some, None, ℤ, pos, ◌+ℤ◌, ◌≤ℤ◌}
use Rattle.vs_layer.specs.Graph.{Graph, arc_of}

-- The arcs lead from node u to node v, each of them one that may be taken, each from the node that the one before it
-- reaches.
-- No arc at all leads from a node to itself.
abbrev pub Leads : Graph → (ℕ → Type 0) → ℕ → List ℕ → ℕ → Type 0
Leads g May u [] v = u ≡ v
Leads g May u (k ∷ ks) v = (k < length g.arcs) × May k × ((arc_of g k).from ≡ u) × Leads g May (arc_of g k).to ks v

-- what one unit costs along the arcs
abbrev pub path_cost : Graph → List ℕ → ℤ
path_cost g [] = pos 0
path_cost g (k ∷ ks) = (arc_of g k).cost +ℤ path_cost g ks

-- the least cost of the lists of arcs that are such ones: None exactly where there is none
abbrev pub IsLeastCost : Graph → (List ℕ → Type 0) → Option ℤ → Type 0
IsLeastCost g Such None = (ks : List ℕ) → ¬ (Such ks)
IsLeastCost g Such (Some c) =
    ((ks : List ℕ) × Such ks × (path_cost g ks ≡ c))
    × ((ks : List ℕ) → Such ks → c ≤ℤ path_cost g ks)
