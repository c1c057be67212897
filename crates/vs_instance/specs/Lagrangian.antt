-- What plans cost at least, by giving up the rule that each trip is run exactly once and paying for each trip that is.
use Rattle.std.specs.Prelude.{◌≡◌, ℕ, ◌*◌, ◌<◌, ◌≤◌, List, [], ◌∷◌, length, All, sum_by, ℤ, pos, ◌+ℤ◌, ◌-ℤ◌, ◌≤ℤ◌, ◌⊎◌, slice_index_or}
use Rattle.vs_types.specs.LayerSet.{Has}
use Rattle.vs_types.specs.declared.layer_set.LayerSet.{LayerSet}
use Rattle.vs_types.specs.declared.numbers.LayerNo.{LayerNo}
use Rattle.vs_types.specs.declared.numbers.TripNo.{TripNo}
use Rattle.vs_instance.specs.Problem.{Problem}
use Rattle.vs_instance.specs.Ways.{layer_of}
use Rattle.vs_instance.specs.Blocks.{IsBlock, block_cost}
use Rattle.vs_instance.specs.Plan.{LayerBlock, all_trips, times_run}
use Rattle.vs_instance.specs.Restriction.{set_of, permitted_sets}

abbrev pub total : List ℤ → ℤ
total [] = pos 0
total (x ∷ rest) = x +ℤ total rest

-- blocks of layer l alone, no more than it has vehicles, of trips that may be run, in which no trip stands twice
pub record AreBlocksOf (p : Problem) (l : LayerNo) (May : ℕ → Type 0) (blocks : List LayerBlock) : Type 0 where
  pub each_block : All (λ b. (b.0 ≡ l) × IsBlock p l b.1) blocks
  pub fleet : length blocks ≤ (layer_of p l.0).fleet
  pub at_most_once : (i : ℕ) → i < length p.trips → times_run blocks i ≤ 1
  pub within : All (λ i. May i.0) (all_trips blocks)

-- such blocks, of trips that may still be run in l
abbrev pub IsBlockList : Problem → List LayerSet → LayerNo → List LayerBlock → Type 0
IsBlockList p sets l blocks = AreBlocksOf p l (λ i. Has (set_of sets i) l.0) blocks

abbrev pub multiplier_of : List ℤ → ℕ → ℤ
multiplier_of multipliers i = slice_index_or multipliers i (pos 0)

-- the multipliers of the trips, added up
abbrev pub paid_for : List ℤ → List TripNo → ℤ
paid_for multipliers [] = pos 0
paid_for multipliers (i ∷ trips) = multiplier_of multipliers i.0 +ℤ paid_for multipliers trips

-- the cost of blocks in 1/1000 of a cost unit, less the multipliers of their trips
abbrev pub reduced_cost : Problem → List ℤ → List LayerBlock → ℤ
reduced_cost p multipliers blocks =
    pos (1000 * sum_by (λ b. block_cost p b.0 b.1) blocks) -ℤ paid_for multipliers (all_trips blocks)

-- low is the least reduced cost of such blocks
pub record IsLowOf (p : Problem) (l : LayerNo) (May : ℕ → Type 0) (multipliers : List ℤ) (low : ℤ) : Type 0 where
  pub blocks : List LayerBlock
  pub are_blocks : AreBlocksOf p l May blocks
  pub cost : low ≡ reduced_cost p multipliers blocks
  pub least : (others : List LayerBlock) → AreBlocksOf p l May others → low ≤ℤ reduced_cost p multipliers others

-- low is the least reduced cost of a block list of layer l
abbrev pub IsLow : Problem → List LayerSet → List ℤ → LayerNo → ℤ → Type 0
IsLow p sets multipliers l low = IsLowOf p l (λ i. Has (set_of sets i) l.0) multipliers low

-- all multipliers and the lows of all layers, added up
pub record IsLagrangianValue (p : Problem) (sets : List LayerSet) (multipliers : List ℤ) (value : ℤ) : Type 0 where
  pub lows : List ℤ
  pub each_layer : length lows ≡ length p.layers
  pub are_lows : (l : LayerNo) → l.0 < length p.layers → IsLow p sets multipliers l (slice_index_or lows l.0 (pos 0))
  pub value_is : value ≡ total multipliers +ℤ total lows

-- trip i has a block of its own in layer l
abbrev pub HasOwnBlock : Problem → LayerNo → TripNo → Type 0
HasOwnBlock p l i = IsBlock p l (i ∷ [])

-- in 1/1000 of a cost unit, what the cheapest block of trip i alone costs, or 0 where it has none
abbrev pub IsStart : Problem → TripNo → ℤ → Type 0
IsStart p i start =
    ((l : LayerNo) × HasOwnBlock p l i × (start ≡ pos (1000 * block_cost p l (i ∷ [])))
    × ((m : LayerNo) → HasOwnBlock p m i → block_cost p l (i ∷ []) ≤ block_cost p m (i ∷ [])))
    ⊎ (((l : LayerNo) → ¬ (HasOwnBlock p l i)) × (start ≡ pos 0))

-- the value at the starting multipliers, where each trip may be run in every layer that permits it
pub record IsStartingValue (p : Problem) (value : ℤ) : Type 0 where
  pub multipliers : List ℤ
  pub each_trip : length multipliers ≡ length p.trips
  pub start : (i : TripNo) → i.0 < length p.trips → IsStart p i (multiplier_of multipliers i.0)
  pub value_is : IsLagrangianValue p (permitted_sets p) multipliers value
