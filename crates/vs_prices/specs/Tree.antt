-- Trees of cases. At each split the layers in which a trip may be run are shared out between two parts.
use Rattle.std.specs.Prelude.{ℕ, ◌+◌, ◌<◌, List, [], ◌∷◌, ◌++◌, length, set}
use Rattle.vs_types.specs.declared.layer_set.LayerSet.{LayerSet}
use Rattle.vs_types.specs.declared.numbers.TripNo.{TripNo}
use Rattle.vs_instance.specs.Restriction.{set_of}
use Rattle.vs_types.specs.Parts.{IsProperPart, rest_of}

pub data Tree : Type 0 where
  -- a case, and the number of the table that proves it
  Leaf : ℕ → Tree
  -- a trip, the layers in which it may be run on the left, the left part, and the right part, which has the layers that
  -- these leave of the trip's
  Split : TripNo → LayerSet → Tree → Tree → Tree

-- the restriction in which this trip may be run in these layers, and the others as before
abbrev pub with_set : List LayerSet → TripNo → LayerSet → List LayerSet
with_set sets trip layers = set sets trip.0 layers

-- the layers of this trip on the right, where these are its layers on the left
abbrev pub right_of : List LayerSet → TripNo → LayerSet → LayerSet
right_of sets trip left = rest_of (set_of sets trip.0) left

-- each split of the tree shares out the set that its trip has there, where the root has this restriction
abbrev pub IsGoodTree : List LayerSet → Tree → Type 0
IsGoodTree sets (Leaf table) = Unit {0}
IsGoodTree sets (Split trip left lower upper) = (trip.0 < length sets) × IsProperPart left (set_of sets trip.0)
    × IsGoodTree (with_set sets trip left) lower × IsGoodTree (with_set sets trip (right_of sets trip left)) upper

-- a leaf: the layers in which each trip may be run there, and the number of its table
pub record LeafPlace : Type 0 where
  pub sets : List LayerSet
  pub table : ℕ

-- the leaves from left to right
abbrev pub leaves : List LayerSet → Tree → List LeafPlace
leaves sets (Leaf table) = record { sets = sets; table = table } ∷ []
leaves sets (Split trip left lower upper) =
    leaves (with_set sets trip left) lower ++ leaves (with_set sets trip (right_of sets trip left)) upper

-- how many splits there are
abbrev pub splits : Tree → ℕ
splits (Leaf table) = 0
splits (Split trip left lower upper) = splits lower + splits upper + 1
