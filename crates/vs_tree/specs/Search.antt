-- A search as it is seen, and the parts that it is made of.
use Rattle.std.specs.Prelude.{◌≡◌, ℕ, ◌+◌, ◌*◌, ◌<◌, ◌≤◌, Bool, true, false, List, length, sum_by, count_by, slice_index_or, MatchBool, Option, Some, None}
use Rattle.vs_types.specs.declared.layer_set.LayerSet.{LayerSet}
use Rattle.vs_prices.specs.declared.bound.Bound.{Bound}
use Rattle.vs_prices.specs.declared.bound.Bound.TheVariants.{NoPlan}
use Rattle.vs_tree.specs.declared.entry.Entry.{Entry}
use Rattle.vs_tree.specs.declared.calls.Hand.{Hand}
use Rattle.vs_tree.specs.declared.calls.Hand.TheVariants.{Idle, Has, Gone}
use Rattle.vs_tree.specs.declared.spot.Spot.{Spot}
use Rattle.vs_tree.specs.declared.spot.Spot.TheVariants.{Inner, Free, Held, Closed}
use Rattle.vs_instance.specs.declared.limits.TheConstants.{MAX_BUDGET, MAX_WORKERS}
use Rattle.vs_tree.specs.Cuts.{Places}
use Rattle.vs_tree.specs.Free.{Entries, entry_at}
use Rattle.vs_tree.specs.History.{FullStep, Opening, State, IsAmong, IsHeldBy, IsHistory, IsLeaf, IsLeafWorth, count_spots, is_held, spot_at, state_of}
use Rattle.vs_tree.specs.Log.{Log}
use Rattle.vs_tree.specs.Sound.{IsOpening}

-- how it began, and the steps that it made
pub record Search : Type 0 where
  pub opening : Opening
  pub steps : List FullStep

abbrev pub state : Search → State
state t = state_of t.opening t.steps

abbrev pub hand_at : List Hand → ℕ → Hand
hand_at hands worker = slice_index_or hands worker Gone

abbrev pub worth_at : List Bound → ℕ → Bound
worth_at worths k = slice_index_or worths k NoPlan

abbrev pub is_busy : Hand → Bool
is_busy Idle = false
is_busy (Has leaf offered) = true
is_busy Gone = false

-- the hand has this leaf
abbrev pub IsHand : Hand → ℕ → Type 0
IsHand hand leaf = (offered : Bool) × (hand ≡ Has leaf offered)

abbrev pub is_gone : Hand → Bool
is_gone Idle = false
is_gone (Has leaf offered) = false
is_gone Gone = true

-- how many plans a worker may still offer, and how many steps it may still make, before it takes another leaf
abbrev pub offers_left : Hand → ℕ
offers_left Idle = 0
offers_left (Has leaf true) = 0
offers_left (Has leaf false) = 1
offers_left Gone = 0

abbrev pub steps_left : Hand → ℕ
steps_left Idle = 0
steps_left (Has leaf true) = 1
steps_left (Has leaf false) = 2
steps_left Gone = 0

-- the hand is the worker's in the state
abbrev pub IsHandOf : State → ℕ → Hand → Type 0
IsHandOf s worker Idle = ((k : ℕ) → ¬ (IsHeldBy s worker k)) × ¬ (IsAmong worker s.gone)
IsHandOf s worker (Has leaf offered) =
    IsHeldBy s worker leaf × MatchBool offered (IsAmong worker s.offered) (¬ (IsAmong worker s.offered))
IsHandOf s worker Gone = IsAmong worker s.gone

-- the entry of a spot among the free leaves
abbrev pub free_entry : Spot → Bound → ℕ → Option Entry
free_entry (Inner trip left lower upper) worth k = None
free_entry (Free table) worth k = Some (record { worth = worth; leaf = k })
free_entry (Held worker table) worth k = None
free_entry (Closed table) worth k = None

-- the parts of a search
pub record Parts : Type 0 where
  pub places : Places
  pub log : Log
  pub hands : List Hand
  pub free : Entries
  pub worths : List Bound
  pub finished : ℕ
  pub sets : List LayerSet

-- how many leaves were taken so far
abbrev pub taken : Parts → ℕ
taken a = a.finished + count_by is_busy a.hands + count_by is_gone a.hands

-- the parts are those of a state
pub record ArePartsOf (o : Opening) (s : State) (a : Parts) : Type 0 where
  pub workers : o.workers ≡ length a.hands
  pub places : s.places ≡ a.places.places
  pub tables : s.tables ≡ a.log.tables
  pub plans : s.accepted ≡ a.log.plans
  pub finished : s.finished ≡ a.finished
  pub hands : (w : ℕ) → w < length a.hands → IsHandOf s w (hand_at a.hands w)
  pub workers_hold : (w k : ℕ) → IsHeldBy s w k → w < length a.hands
  pub busy : count_by is_busy a.hands ≡ count_spots is_held s.places
  pub free : (k : ℕ) → k < length a.free → entry_at a.free k ≡ free_entry (spot_at s k) (worth_at a.worths k) k
  pub worths : (k : ℕ) → IsLeaf s k → IsLeafWorth o.problem s k (worth_at a.worths k)
  pub few_places : length a.places.places ≤ 2 * a.finished + 1
  pub few_steps : length a.log.steps + sum_by steps_left a.hands ≤ 3 * taken a
  pub few_plans : length a.log.plans + sum_by offers_left a.hands ≤ taken a + 1
  pub places_room : a.places.room ≡ 2 * o.budget + 1
  pub steps_room : a.log.step_room ≡ 3 * (o.budget + o.workers)
  pub tables_room : a.log.table_room ≡ o.budget + 1
  pub plans_room : a.log.plan_room ≡ o.budget + o.workers + 1
  pub free_size : length a.free ≡ 2 * o.budget + 1
  pub worths_size : length a.worths ≡ 2 * o.budget + 1
  pub sets_size : length a.sets ≡ length o.problem.trips

-- the steps are a history of the opening, and the parts are those of the state that they led to
pub record IsSearch (o : Opening) (a : Parts) : Type 0 where
  pub opening : IsOpening o
  pub few_leaves : o.budget ≤ MAX_BUDGET
  pub few_workers : o.workers ≤ MAX_WORKERS
  pub history : IsHistory o a.log.steps
  pub parts : ArePartsOf o (state_of o a.log.steps) a
