-- Where the vehicles of a circulation stand, and which trips they have run.
use Rattle.std.specs.Prelude.{◌≡◌, ℕ, ◌*◌, ◌<◌, ◌==◌, Bool, not, List, [], ◌∷◌, ◌++◌, length, map, set, slice_index, slice_index_or}
use Rattle.std.specs.List.{count_by}
use Rattle.vs_types.specs.declared.numbers.LayerNo.{LayerNo}
use Rattle.vs_layer.specs.Graph.{arc_of}
use Rattle.vs_instance.specs.Plan.{LayerBlock}
use Rattle.vs_plan.specs.Blocks.{pairs_of}
use Rattle.vs_match.specs.LayerGraph.{LayerGraph, kind_of}
use Rattle.vs_match.specs.Underway.{IsOnward, Path, AreUnderWay, IsDoneBelow, trips_at, trips_of}
use Rattle.vs_decomp.specs.declared.stand.Stand.{Stand}

-- what has been run by the vehicles that stand at each node
abbrev pub standing : List Stand → List (List LayerBlock)
standing stands = map (λ s. pairs_of s.vehicles.items) stands

abbrev pub vehicles_at : List (List LayerBlock) → ℕ → List LayerBlock
vehicles_at stands v = slice_index_or stands v []

-- a vehicle more at node v
abbrev pub with_vehicle : ℕ → LayerBlock → List (List LayerBlock) → List (List LayerBlock)
with_vehicle v b stands = set stands v (vehicles_at stands v ++ b ∷ [])

-- this vehicle is the last that stood at node v, and has left it
abbrev pub LeavesNode : ℕ → List (List LayerBlock) → LayerBlock → List (List LayerBlock) → Type 0
LeavesNode v old b new = old ≡ with_vehicle v b new

-- one vehicle goes by arc k, and has run its trip if it is one's
pub record Goes (n : LayerGraph) (k : ℕ) (old new : List (List LayerBlock)) : Type 0 where
  pub vehicle : LayerBlock
  pub left : List (List LayerBlock)
  pub leaves : LeavesNode (arc_of n.graph k).from old vehicle left
  pub comes : new ≡ with_vehicle (arc_of n.graph k).to (vehicle.0, vehicle.1 ++ trips_at (kind_of n k)) left

-- what a vehicle of layer l has run on a path
abbrev pub run_on : LayerGraph → LayerNo → Path → LayerBlock
run_on n l path = (l, trips_of n.kinds path)

-- the vehicles of layer l have come to where they stand by paths that carry what is done of the units
pub record HaveCome (n : LayerGraph) (l : LayerNo) (units done : List ℕ)
    (stands : List (List LayerBlock)) : Type 0 where
  pub paths : List (List Path)
  pub are : stands ≡ map (λ some. map (run_on n l) some) paths
  pub under : AreUnderWay n.graph units done paths

-- all is done that leaves lower nodes than arc k does, and nothing of arc k
pub record CanTake (n : LayerGraph) (units : List ℕ) (k : ℕ) (stands : List (List LayerBlock)) : Type 0 where
  pub layer : LayerNo
  pub done : List ℕ
  pub come : HaveCome n layer units done stands
  pub below : IsDoneBelow n.graph units (arc_of n.graph k).from done
  pub none : slice_index done k ≡ 0

-- whatever was done before, so many units of arc k are done as well
abbrev pub HaveTaken : LayerGraph → List ℕ → ℕ → ℕ → List (List LayerBlock) → List (List LayerBlock) → Type 0
HaveTaken n units k count old new = (l : LayerNo) (done : List ℕ) → HaveCome n l units done old
    → IsDoneBelow n.graph units (arc_of n.graph k).from done → slice_index done k ≡ 0
    → HaveCome n l units (set done k count) new

abbrev pub HasTakenArc : LayerGraph → List ℕ → ℕ → List (List LayerBlock) → List (List LayerBlock) → Type 0
HasTakenArc n units k old new = HaveTaken n units k (slice_index units k) old new

-- all is done that leaves nodes below v; of the arcs that leave v those that are taken are; and nothing else
pub record IsAt (n : LayerGraph) (l : LayerNo) (units : List ℕ) (v : ℕ) (taken : List ℕ)
    (stands : List (List LayerBlock)) : Type 0 where
  pub done : List ℕ
  pub come : HaveCome n l units done stands
  pub below : IsDoneBelow n.graph units v done
  pub here : (k : ℕ) → IsOnward n.graph k → (arc_of n.graph k).from ≡ v
      → slice_index done k ≡ slice_index units k * count_by (λ j. j == k) taken
  pub later : (k : ℕ) → IsOnward n.graph k → v < (arc_of n.graph k).from → slice_index done k ≡ 0

-- whether a vehicle has run a trip
abbrev pub has_run : LayerBlock → Bool
has_run b = not (length b.1 == 0)
