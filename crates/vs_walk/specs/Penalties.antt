-- What layers are offered for trips while they come to agree on which of them runs which.
use Rattle.std.specs.Prelude.{◌≡◌, ◌≢◌, ◌⊎◌, ◌↔◌, ℕ, ◌<◌, ◌/◌, List, length, Option, MatchOption, ℤ, pos, ◌+ℤ◌, ◌-ℤ◌}
use Rattle.vs_types.specs.LayerSet.{Has, members}
use Rattle.vs_types.specs.declared.layer_set.LayerSet.{LayerSet}
use Rattle.vs_types.specs.declared.numbers.TheConstants.{MAX_LAYERS}
use Rattle.vs_circ.specs.Offers.{offer_of}
use Rattle.vs_instance.specs.Dearest.{most_multiplier}
use Rattle.vs_instance.specs.Lagrangian.{multiplier_of}
use Rattle.vs_instance.specs.Problem.{Problem}
use Rattle.vs_instance.specs.Restriction.{set_of}
use Rattle.vs_instance.specs.Ways.{Permitted, trip_of}
use Rattle.vs_multi.specs.Multipliers.{AreWithin, IsMultiplier, limited}
use Rattle.vs_walk.specs.declared.penalties.Penalties.{Penalties}

-- what a layer is offered within a limit for a trip that these other layers run: half a step more than the multiplier
-- where there are none, half a step less where there are some
pub record IsBidBeside (most multiplier : ℤ) (rate : ℕ) (others : LayerSet) (bid : ℤ) : Type 0 where
  pub alone : length (members others) ≡ 0 → bid ≡ limited most (multiplier +ℤ pos (rate / 2))
  pub beside : 0 < length (members others) → bid ≡ limited most (multiplier -ℤ pos (rate / 2))

-- what layer l is offered for a trip of so many in whose set it is, and that these layers run now
pub record IsBid (trips : ℕ) (set : LayerSet) (l : ℕ) (multiplier : ℤ) (rate : ℕ) (runs : LayerSet) (bid : ℤ)
    : Type 0 where
  pub may : Has set l
  pub within : IsMultiplier trips bid
  pub others : LayerSet
  pub but : (k : ℕ) → Has others k ↔ (Has runs k × (k ≢ l))
  pub beside : IsBidBeside (pos (most_multiplier trips)) multiplier rate others bid

-- the offer of trip i to layer l, none where its set hasn't that
abbrev pub IsOfferIn : List LayerSet → ℕ → List ℤ → ℕ → List LayerSet → List (Option ℤ) → ℕ → Type 0
IsOfferIn sets l multipliers rate runs offers i =
    MatchOption (offer_of offers i) (¬ (Has (set_of sets i) l))
    (IsBid (length sets) (set_of sets i) l (multiplier_of multipliers i) rate (set_of runs i))

-- an offer of each trip
pub record AreBids (sets : List LayerSet) (l : ℕ) (multipliers : List ℤ) (rate : ℕ) (runs : List LayerSet)
    (offers : List (Option ℤ)) : Type 0 where
  pub each_trip : length offers ≡ length sets
  pub each : (i : ℕ) → i < length sets → IsOfferIn sets l multipliers rate runs offers i

-- penalties with an entry for each of so many trips
pub record ArePenaltiesOf (trips : ℕ) (penalties : Penalties) : Type 0 where
  pub each_trip : length penalties.multipliers.items ≡ trips
  pub within : AreWithin penalties.multipliers.items
  pub runs : length penalties.runs.items ≡ trips
  pub offers : length penalties.offers.items ≡ trips
  pub marks : length penalties.marks.items ≡ trips

-- penalties of an instance have an entry for each trip
abbrev pub ArePenalties : Problem → Penalties → Type 0
ArePenalties p penalties = ArePenaltiesOf (length p.trips) penalties

-- layer l is the lowest of the set
pub record IsLowest (set : LayerSet) (l : ℕ) : Type 0 where
  pub has : Has set l
  pub least : (k : ℕ) → Has set k → (k ≡ l) ⊎ (l < k)

-- the lowest of the layers that run a trip, where that may run it, else the lowest that may
abbrev pub IsLowestRun : LayerSet → LayerSet → ℕ → Type 0
IsLowestRun permitted runs layer =
    (IsLowest runs layer × Has permitted layer)
    ⊎ (IsLowest permitted layer × ((l : ℕ) → IsLowest runs l → ¬ (Has permitted l)))

-- the set has one layer, which is the lowest of those that run trip i
pub record IsGiven (p : Problem) (i : ℕ) (runs set : LayerSet) : Type 0 where
  pub layer : ℕ
  pub lowest : IsLowestRun (trip_of p i).layers runs layer
  pub permitted : Permitted p layer i
  pub few : layer < MAX_LAYERS
  pub alone : (l : ℕ) → Has set l ↔ (l ≡ layer)

-- a set for each trip, with one layer
pub record AreGiven (p : Problem) (runs chosen : List LayerSet) : Type 0 where
  pub each_trip : length chosen ≡ length p.trips
  pub given : (i : ℕ) → i < length p.trips → IsGiven p i (set_of runs i) (set_of chosen i)
