-- Flows that no node makes or keeps.
use Rattle.std.specs.Prelude.{◌≡◌, ℕ, ◌<◌, ◌≤◌, List, [], ◌∷◌, length, sum_by, slice_index, ℤ, pos, ◌+ℤ◌, ◌*ℤ◌}
use Rattle.vs_layer.specs.declared.arc.Arc.{Arc}
use Rattle.vs_layer.specs.Graph.{Graph, arc_of, leaving, reaching}

-- the units that leave node v, and those that reach it
abbrev pub units_out : Graph → List ℕ → ℕ → ℕ
units_out g units v = sum_by (λ k. slice_index units k) (leaving g v)

abbrev pub units_in : Graph → List ℕ → ℕ → ℕ
units_in g units v = sum_by (λ k. slice_index units k) (reaching g v)

-- no arc carries more than it has room for, and as many units leave each node as reach it
pub record IsCirculation (g : Graph) (units : List ℕ) : Type 0 where
  pub each_arc : length units ≡ length g.arcs
  pub rooms : (k : ℕ) → k < length g.arcs → slice_index units k ≤ (arc_of g k).room
  pub conserved : (v : ℕ) → v < g.nodes → units_in g units v ≡ units_out g units v

-- what the flow costs, unit by unit
abbrev pub cost_of_units : List Arc → List ℕ → ℤ
cost_of_units [] units = pos 0
cost_of_units (a ∷ arcs) [] = pos 0
cost_of_units (a ∷ arcs) (n ∷ units) = (a.cost *ℤ pos n) +ℤ cost_of_units arcs units

abbrev pub flow_cost : Graph → List ℕ → ℤ
flow_cost g units = cost_of_units g.arcs units
