-- Which layers each trip may still be run in.
use Rattle.std.specs.Prelude.{◌≡◌, ◌≢◌, ℕ, ◌<◌, List, [], length, map, All, slice_index_or}
use Rattle.vs_types.specs.declared.layer_set.LayerSet.{LayerSet}
use Rattle.vs_types.specs.LayerSet.{Has, members}
use Rattle.vs_instance.specs.Problem.{Problem}
use Rattle.vs_instance.specs.Ways.{Permitted}
use Rattle.vs_instance.specs.Plan.{LayerBlock}

-- the set of trip i
abbrev pub set_of : List LayerSet → ℕ → LayerSet
set_of sets i = slice_index_or sets i (record { 0 = 0 })

-- one set per trip, each a part of the trip's permitted set that isn't empty
pub record IsRestriction (p : Problem) (sets : List LayerSet) : Type 0 where
  pub each_trip : length sets ≡ length p.trips
  pub some_layer : (i : ℕ) → i < length p.trips → members (set_of sets i) ≢ []
  pub permitted : (i l : ℕ) → i < length p.trips → Has (set_of sets i) l → Permitted p l i

-- the restriction that restricts nothing
abbrev pub permitted_sets : Problem → List LayerSet
permitted_sets p = map (λ t. t.layers) p.trips

-- each trip stands in a block of a layer of its set
abbrev pub IsWithin : List LayerSet → List LayerBlock → Type 0
IsWithin sets blocks = All (λ b. All (λ i. Has (set_of sets i.0) b.0.0) b.1) blocks
