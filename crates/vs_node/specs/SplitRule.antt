-- Which trips' sets a leaf may be split by, and how.
use Rattle.std.specs.Prelude.{◌≡◌, ℕ, ◌<◌, ◌↔◌, List, length}
use Rattle.vs_types.specs.declared.layer_set.LayerSet.{LayerSet}
use Rattle.vs_types.specs.declared.numbers.TheConstants.{MAX_LAYERS}
use Rattle.vs_types.specs.LayerSet.{Has, members}
use Rattle.vs_instance.specs.Restriction.{set_of}
use Rattle.vs_node.specs.declared.leads.Candidate.{Candidate}
use Rattle.vs_node.specs.declared.leads.Leads.{Leads}

-- trip i may be run in two layers or more
abbrev pub HasChoice : List LayerSet → ℕ → Type 0
HasChoice sets i = 1 < length (members (set_of sets i))

-- i is the lowest of the first so many numbers of which this holds
pub record IsLowest (P : ℕ → Type 0) (count i : ℕ) : Type 0 where
  pub inside : i < count
  pub holds : P i
  pub lowest : (j : ℕ) → j < i → ¬ (P j)

-- of none of them it holds
abbrev pub HoldsOfNone : (ℕ → Type 0) → ℕ → Type 0
HoldsOfNone P count = (j : ℕ) → j < count → ¬ (P j)

-- the leads have a place for each of these sets, and a share for each layer in one of them
pub record AreLeadsFor (sets : List LayerSet) (leads : Leads) : Type 0 where
  pub each_trip : leads.shares.trips ≡ length sets
  pub layers : (i l : ℕ) → i < length sets → Has (set_of sets i) l → l < leads.shares.layers

-- one of the first so many trips that may be run in two layers or more, and one of these layers
pub record MaySplit (sets : List LayerSet) (count : ℕ) (candidate : Candidate) : Type 0 where
  pub inside : candidate.trip.0 < count
  pub choice : HasChoice sets candidate.trip.0
  pub among : Has (set_of sets candidate.trip.0) candidate.layer.0
  pub few : candidate.layer.0 < MAX_LAYERS

-- the set has one of the other's layers alone
pub record IsLayerAlone (left whole : LayerSet) : Type 0 where
  pub layer : ℕ
  pub among : Has whole layer
  pub alone : (l : ℕ) → Has left l ↔ (l ≡ layer)
