-- The tree of cases that the spots of a state make.
use Rattle.std.specs.Prelude.{◌≡◌, ℕ, ◌+◌, ◌<◌, ◌==◌, Bool, false, if◌then◌else◌, List, [], ◌∷◌, ◌++◌, length, count_by}
use Rattle.vs_types.specs.declared.layer_set.LayerSet.{LayerSet}
use Rattle.vs_types.specs.declared.numbers.TripNo.{TripNo}
use Rattle.vs_instance.specs.Problem.{Problem}
use Rattle.vs_instance.specs.Restriction.{permitted_sets}
use Rattle.vs_tree.specs.declared.spot.Spot.TheVariants.{Inner}
use Rattle.vs_tree.specs.History.{Place, State, count_spots, is_inner, place_at, table_of}
use Rattle.vs_prices.specs.Tree.{Tree, Leaf, Split, IsGoodTree, LeafPlace, leaves, right_of, splits, with_set}

-- spot k is a leaf that has this table, where each trip may be run in these layers
pub record IsLeafAt (places : List Place) (k : ℕ) (sets : List LayerSet) (table : ℕ) (spots : List ℕ) : Type 0 where
  pub leaf : is_inner (place_at places k).spot ≡ false
  pub table_is : table ≡ table_of (place_at places k).spot
  pub sets_are : sets ≡ (place_at places k).sets
  pub spots_are : spots ≡ k ∷ []

-- spot k was split so, and the two parts are these
pub record IsSplitAt (places : List Place) (k : ℕ) (trip : TripNo) (left : LayerSet)
    (IsLower IsUpper : ℕ → List ℕ → Type 0) (spots : List ℕ) : Type 0 where
  pub lower : ℕ
  pub upper : ℕ
  pub first : List ℕ
  pub second : List ℕ
  pub within : k < length places
  pub inner : (place_at places k).spot ≡ Inner trip left lower upper
  pub is_lower : IsLower lower first
  pub is_upper : IsUpper upper second
  pub spots_are : spots ≡ first ++ second

-- the tree of spot k and of those below it, whose leaves are these spots from left to right
abbrev pub IsTreeAt : List Place → ℕ → List LayerSet → Tree → List ℕ → Type 0
IsTreeAt places k sets (Leaf table) spots = IsLeafAt places k sets table spots
IsTreeAt places k sets (Split trip left lower upper) spots =
    IsSplitAt places k trip left
    (λ j first. IsTreeAt places j (with_set sets trip left) lower first)
    (λ j second. IsTreeAt places j (with_set sets trip (right_of sets trip left)) upper second)
    spots

-- the leaves of a tree are those at these spots
abbrev pub AreLeavesAt : List Place → List LeafPlace → List ℕ → Type 0
AreLeavesAt places [] [] = Unit {0}
AreLeavesAt places (leaf ∷ rest) (k ∷ spots) =
    IsLeafAt places k leaf.sets leaf.table (k ∷ []) × AreLeavesAt places rest spots
AreLeavesAt places _ _ = ⊥

abbrev pub one_if : Bool → ℕ
one_if b = if b then 1 else 0

-- how often a spot stands among some
abbrev pub times : ℕ → List ℕ → ℕ
times k spots = count_by (λ j. j == k) spots

-- a good tree of all spots, in which each leaf stands once
pub record IsTreeOf (p : Problem) (s : State) (tree : Tree) : Type 0 where
  pub spots : List ℕ
  pub is_tree : IsTreeAt s.places 0 (permitted_sets p) tree spots
  pub good : IsGoodTree (permitted_sets p) tree
  pub leaves_are : AreLeavesAt s.places (leaves (permitted_sets p) tree) spots
  pub once : (k : ℕ) → times k spots + one_if (is_inner (place_at s.places k).spot) ≡ 1
  pub splits_are : splits tree ≡ count_spots is_inner s.places
