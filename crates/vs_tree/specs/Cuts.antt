-- The layers at each spot of a tree, by the cuts through which the spots came.
use Rattle.std.specs.Prelude.{◌≡◌, ◌≢◌, ◌⊎◌, ℕ, ◌+◌, ◌<◌, ◌≤◌, ◌==◌, if◌then◌else◌, List, [], ◌∷◌, ◌++◌, length, slice_index_or, vec_capacity}
use Rattle.std.specs.declared.alloc.Global.{Global}
use Rattle.std.specs.declared.vec.Vec.{Vec}
use Rattle.vs_types.specs.declared.layer_set.LayerSet.{LayerSet}
use Rattle.vs_instance.specs.Restriction.{set_of}
use Rattle.vs_tree.specs.declared.spot.Cut.{Cut}
use Rattle.vs_tree.specs.declared.spot.Spot.{Spot}
use Rattle.vs_tree.specs.declared.spot.Spot.TheVariants.{Inner, Free}
use Rattle.vs_types.specs.declared.numbers.TripNo.{TripNo}
use Rattle.vs_tree.specs.History.{Place, place_at, with_spot}
use Rattle.vs_prices.specs.Tree.{with_set}

-- the places, and how many there may be
pub record Places : Type 0 where
  pub places : List Place
  pub room : ℕ

abbrev pub no_cut : Cut
no_cut = record { parent = 0; trip = record { 0 = 0 }; layers = record { 0 = 0 } }

abbrev pub cut_at : List Cut → ℕ → Cut
cut_at cuts k = slice_index_or cuts k no_cut

-- the layers at spots that come to others, each by a cut of one before it
abbrev pub sets_after : List (List LayerSet) → List Cut → List (List LayerSet)
sets_after before [] = before
sets_after before (cut ∷ cuts) =
    sets_after (before ++ with_set (slice_index_or before cut.parent []) cut.trip cut.layers ∷ []) cuts

-- the layers at all spots
abbrev pub sets_of : List LayerSet → List Cut → List (List LayerSet)
sets_of permitted cuts = sets_after (permitted ∷ []) cuts

abbrev pub places_of : List Spot → List (List LayerSet) → List Place
places_of [] sets = []
places_of (spot ∷ spots) [] = record { spot = spot; sets = [] } ∷ places_of spots []
places_of (spot ∷ spots) (here ∷ sets) = record { spot = spot; sets = here } ∷ places_of spots sets

-- each cut is of a spot before it, and gives a trip some layers
pub record IsCut (trips k : ℕ) (cut : Cut) : Type 0 where
  pub before : cut.parent ≤ k
  pub inside : cut.trip.0 < trips
  pub some : cut.layers.0 ≢ 0

abbrev pub AreCuts : ℕ → List Cut → Type 0
AreCuts trips cuts = (k : ℕ) → k < length cuts → IsCut trips k (cut_at cuts k)

pub record ArePlaces (permitted : List LayerSet) (spots : Vec Spot Global) (cuts : Vec Cut Global) (room : ℕ)
    : Type 0 where
  pub each : length spots.items ≡ length cuts.items + 1
  pub are_cuts : AreCuts (length permitted) cuts.items
  pub spots_room : room ≤ vec_capacity spots
  pub cuts_room : room ≤ vec_capacity cuts + 1

-- a set, or these layers where it is empty
abbrev pub laid : LayerSet → LayerSet → LayerSet
laid set layers = if set.0 == 0 then layers else set

-- a set that was laid is the one at the spot; where none was, the one here is that of the spot
abbrev pub IsLaid : LayerSet → LayerSet → LayerSet → Type 0
IsLaid target here set = ((set.0 ≡ 0) × (here ≡ target)) ⊎ ((set.0 ≢ 0) × (set ≡ target))

abbrev pub AreLaid : List LayerSet → List LayerSet → List LayerSet → Type 0
AreLaid target here sets = (i : ℕ) → i < length sets → IsLaid (set_of target i) (set_of here i) (set_of sets i)

-- a free spot below spot k, where the trip is run in these layers
abbrev pub part_at : List Place → ℕ → TripNo → LayerSet → ℕ → Place
part_at places k trip layers table =
    record { spot = Free table; sets = with_set (place_at places k).sets trip layers }

-- spot k became an inner one, above the next two spots, of which the lower came
abbrev pub with_lower : List Place → ℕ → TripNo → LayerSet → ℕ → List Place
with_lower places k trip left table =
    let split = with_spot places k (Inner trip left (length places) (length places + 1)) in
    split ++ part_at split k trip left table ∷ []

-- spot k was split, and its two parts came as the next spots
abbrev pub split_at : List Place → ℕ → TripNo → LayerSet → LayerSet → ℕ → List Place
split_at places k trip left right table =
    with_spot places k (Inner trip left (length places) (length places + 1))
    ++ part_at places k trip left table ∷ part_at places k trip right table ∷ []
