-- Vehicles that are under way through a net, each with the arcs that it has taken.
use Rattle.std.specs.Prelude.{◌≡◌, ℕ, suc, ◌+◌, ◌-◌, ◌*◌, ◌<◌, ◌≤◌, List, [], ◌∷◌, length, All, sum_by, flat_map, slice_index, slice_index_or}
use Rattle.vs_types.specs.declared.numbers.TripNo.{TripNo}
use Rattle.vs_layer.specs.Graph.{Graph, arc_of}
use Rattle.vs_layer.specs.Circulation.{units_out, units_in}
use Rattle.vs_layer.specs.Walks.{Leads}
use Rattle.vs_match.specs.declared.arc_kind.ArcKind.{ArcKind}
use Rattle.vs_match.specs.declared.arc_kind.ArcKind.TheVariants.{Trip}
use Rattle.vs_match.specs.LayerGraph.{kind_at}

-- any arc but the last, which is the return arc
abbrev pub IsOnward : Graph → ℕ → Type 0
IsOnward g k = k + 1 < length g.arcs

-- the units on the return arc
abbrev pub units_back : Graph → List ℕ → ℕ
units_back g units = slice_index units (length g.arcs - 1)

-- the arcs that a vehicle has taken
abbrev pub Path : Type 0
Path = List ℕ

-- the trips that these arcs run, in order
abbrev pub trips_at : ArcKind → List TripNo
trips_at (Trip i) = i ∷ []
trips_at _ = []

abbrev pub trips_of : List ArcKind → Path → List TripNo
trips_of kinds path = flat_map (λ k. trips_at (kind_at kinds k)) path

-- what paths weigh together, and what the units of a flow do, where arc k weighs f k
abbrev pub weight_of : (ℕ → ℕ) → List Path → ℕ
weight_of f paths = sum_by (λ path. sum_by f path) paths

abbrev pub weight_of_flow : (ℕ → ℕ) → List ℕ → ℕ
weight_of_flow f [] = 0
weight_of_flow f (n ∷ units) = f 0 * n + weight_of_flow (λ k. f (suc k)) units

-- the paths of the vehicles that stand at node u
abbrev pub paths_at : List (List Path) → ℕ → List Path
paths_at stands u = slice_index_or stands u []

-- The vehicles of these units, node by node, once they have taken what is done of the units. Whatever the arcs weigh,
-- the paths weigh what the done units do, but for those on the return arc.
pub record AreUnderWay (g : Graph) (units done : List ℕ) (stands : List (List Path)) : Type 0 where
  pub each_node : length stands ≡ g.nodes
  pub each_arc : length done ≡ length g.arcs
  pub within : (k : ℕ) → k < length g.arcs → slice_index done k ≤ slice_index units k
  pub returned : units_back g done ≡ units_back g units
  pub paths : (u : ℕ) → u < g.nodes → All (λ path. Leads g (IsOnward g) 0 path u) (paths_at stands u)
  pub standing : (u : ℕ) → u + 1 < g.nodes → length (paths_at stands u) + units_out g done u ≡ units_in g done u
  pub vehicles : sum_by length stands ≡ units_back g units
  pub weights : (f : ℕ → ℕ) → sum_by (weight_of f) stands + f (length g.arcs - 1) * units_back g units
      ≡ weight_of_flow f done

-- all is done that leaves a node below v, but for the return arc
abbrev pub IsDoneBelow : Graph → List ℕ → ℕ → List ℕ → Type 0
IsDoneBelow g units v done = (j : ℕ) → IsOnward g j → (arc_of g j).from < v → slice_index done j ≡ slice_index units j

-- paths from the first node to the last that carry these units, as many as the return arc does
pub record ArePathsOf (g : Graph) (units : List ℕ) (paths : List Path) : Type 0 where
  pub whole : All (λ path. Leads g (IsOnward g) 0 path (g.nodes - 1)) paths
  pub vehicles : length paths ≤ units_back g units
  pub weights : (f : ℕ → ℕ) → weight_of f paths + f (length g.arcs - 1) * units_back g units ≡ weight_of_flow f units
