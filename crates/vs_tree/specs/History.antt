-- The history of a search: how it began, the steps that it made, and the state that they led to.
use Rattle.std.specs.Prelude.{◌≡◌, ℕ, ◌+◌, ◌<◌, ◌≤◌, ◌==◌, Bool, true, false, not, List, [], ◌∷◌, ◌++◌, length, set, filter, count_by, slice_index_or, Option, Some, None, option_map, slice_get, ℤ, ◌<ℤ◌}
use Rattle.std.specs.List.{last_or}
use Rattle.vs_types.specs.declared.layer_set.LayerSet.{LayerSet}
use Rattle.vs_types.specs.declared.numbers.TripNo.{TripNo}
use Rattle.vs_instance.specs.Problem.{Problem}
use Rattle.vs_instance.specs.Restriction.{permitted_sets, set_of}
use Rattle.vs_plan.specs.CheckedPlan.{Checked, IsChecked}
use Rattle.vs_prices.specs.Bounds.{IsBelow, IsNoLess}
use Rattle.vs_prices.specs.declared.bound.Bound.{Bound}
use Rattle.vs_tree.specs.declared.spot.Spot.{Spot}
use Rattle.vs_tree.specs.declared.spot.Spot.TheVariants.{Inner, Free, Held, Closed as ClosedSpot}
use Rattle.vs_tree.specs.Prices.{Prices, AreLawful, AreWorth, no_prices, zero_prices}
use Rattle.vs_prices.specs.Tree.{right_of, with_set}
use Rattle.vs_types.specs.Parts.{IsProperPart}

-- how a search begins: the instance, how many leaves may be worked on, how many workers there are, and a plan that is
-- known, if any
pub record Opening : Type 0 where
  pub problem : Problem
  pub budget : ℕ
  pub workers : ℕ
  pub first : Option Checked

-- a step with the table or the accepted plan that it adds
pub data FullStep : Type 0 where
  -- the worker, and the leaf
  Took : ℕ → ℕ → FullStep
  -- the worker, the leaf, the number of its new table, the trip, its layers on the left, and the table
  Split : ℕ → ℕ → ℕ → TripNo → LayerSet → Prices → FullStep
  -- the worker, the leaf, the number of its new table, and the table
  Closed : ℕ → ℕ → ℕ → Prices → FullStep
  -- the worker, the plan's cost, and, where the plan is accepted, its number and the plan
  Offered : ℕ → ℤ → Option ℕ → Option Checked → FullStep
  -- the worker, and the leaf
  GaveBack : ℕ → ℕ → FullStep

-- a spot, and the layers in which each trip may be run there
pub record Place : Type 0 where
  pub spot : Spot
  pub sets : List LayerSet

-- spots, tables and accepted plans by number; how many leaves were worked on; the workers that gave back, and those
-- that offered a plan since they took a leaf
pub record State : Type 0 where
  pub places : List Place
  pub tables : List Prices
  pub accepted : List Checked
  pub finished : ℕ
  pub gone : List ℕ
  pub offered : List ℕ

-- the plans of an option
abbrev pub plans_of : Option Checked → List Checked
plans_of None = []
plans_of (Some plan) = plan ∷ []

-- the root is free with the table of zeros
abbrev pub first_state : Opening → State
first_state o = record {
  places = record { spot = Free 0; sets = permitted_sets o.problem } ∷ [];
  tables = zero_prices o.problem ∷ [];
  accepted = plans_of o.first;
  finished = 0;
  gone = [];
  offered = [];
}

-- what stands past the end of the places
abbrev pub no_place : Place
no_place = record { spot = Inner (record { 0 = 0 }) (record { 0 = 0 }) 0 0; sets = [] }

abbrev pub place_at : List Place → ℕ → Place
place_at places k = slice_index_or places k no_place

-- the spot of number k, and the layers in which each trip may be run there
abbrev pub spot_at : State → ℕ → Spot
spot_at s k = (place_at s.places k).spot

abbrev pub sets_at : State → ℕ → List LayerSet
sets_at s k = (place_at s.places k).sets

-- the number of a leaf's table
abbrev pub table_of : Spot → ℕ
table_of (Inner trip left lower upper) = 0
table_of (Free table) = table
table_of (Held worker table) = table
table_of (ClosedSpot table) = table

-- the spot of this number is another one now
abbrev pub with_spot : List Place → ℕ → Spot → List Place
with_spot places k spot = set places k (record { spot = spot; sets = (place_at places k).sets })

-- the cheapest plan so far, which is the last that was accepted, and what it costs
abbrev pub incumbent : State → Option Checked
incumbent s = last_or None s.accepted

abbrev pub known : State → Option ℤ
known s = option_map (λ plan. plan.cost) (incumbent s)

-- what a spot is
abbrev pub is_inner : Spot → Bool
is_inner (Inner trip left lower upper) = true
is_inner (Free table) = false
is_inner (Held worker table) = false
is_inner (ClosedSpot table) = false

abbrev pub is_held : Spot → Bool
is_held (Inner trip left lower upper) = false
is_held (Free table) = false
is_held (Held worker table) = true
is_held (ClosedSpot table) = false

abbrev pub is_closed : Spot → Bool
is_closed (Inner trip left lower upper) = false
is_closed (Free table) = false
is_closed (Held worker table) = false
is_closed (ClosedSpot table) = true

-- how many spots are of a kind
abbrev pub count_spots : (Spot → Bool) → List Place → ℕ
count_spots kind places = count_by (λ place. kind place.spot) places

-- spot k is a leaf; it is free, closed, or held by the worker
abbrev pub IsLeaf : State → ℕ → Type 0
IsLeaf s k = is_inner (spot_at s k) ≡ false

abbrev pub IsFree : State → ℕ → Type 0
IsFree s k = (table : ℕ) × (spot_at s k ≡ Free table)

abbrev pub IsClosed : State → ℕ → Type 0
IsClosed s k = (table : ℕ) × (spot_at s k ≡ ClosedSpot table)

abbrev pub IsHeldBy : State → ℕ → ℕ → Type 0
IsHeldBy s worker k = (table : ℕ) × (spot_at s k ≡ Held worker table)

-- the prices of leaf k
abbrev pub prices_at : State → ℕ → Prices
prices_at s k = slice_index_or s.tables (table_of (spot_at s k)) no_prices

-- leaf k is worth the bound: its table is, within its restriction
abbrev pub IsLeafWorth : Problem → State → ℕ → Bound → Type 0
IsLeafWorth p s k worth = AreWorth p (sets_at s k) (prices_at s k) worth

-- a worker stands among some
abbrev pub IsAmong : ℕ → List ℕ → Type 0
IsAmong worker others = (k : ℕ) × (slice_get others k ≡ Some worker)

-- of the free leaves that leave room for a cheaper plan, leaf k is the one of least worth, and of those the first
pub record IsNextLeaf (p : Problem) (s : State) (k : ℕ) : Type 0 where
  pub free : IsFree s k
  pub worth : Bound
  pub is_worth : IsLeafWorth p s k worth
  pub below : IsBelow worth (known s)
  pub least : (j : ℕ) (other : Bound) → IsFree s j → IsLeafWorth p s j other → IsNoLess other worth
  pub first : (j : ℕ) (other : Bound) → IsFree s j → IsLeafWorth p s j other → IsNoLess worth other → k ≤ j

pub record MayTake (o : Opening) (s : State) (worker leaf : ℕ) : Type 0 where
  pub is_worker : worker < o.workers
  pub idle : (k : ℕ) → ¬ (IsHeldBy s worker k)
  pub stays : ¬ (IsAmong worker s.gone)
  pub room : s.finished + count_spots is_held s.places < o.budget
  pub next : IsNextLeaf o.problem s leaf

-- the leaf may get these prices as its table, of this number
pub record MayGive (p : Problem) (s : State) (leaf table : ℕ) (prices : Prices) : Type 0 where
  pub number : table ≡ length s.tables
  pub lawful : AreLawful p prices
  pub no_less : (worth least : Bound) → AreWorth p (sets_at s leaf) prices worth → IsLeafWorth p s leaf least
      → IsNoLess worth least

pub record MaySplit (o : Opening) (s : State) (worker leaf table : ℕ) (trip : TripNo) (left : LayerSet)
    (prices : Prices) : Type 0 where
  pub holds : IsHeldBy s worker leaf
  pub gives : MayGive o.problem s leaf table prices
  pub of_instance : trip.0 < length o.problem.trips
  pub part : IsProperPart left (set_of (sets_at s leaf) trip.0)

pub record MayClose (o : Opening) (s : State) (worker leaf table : ℕ) (prices : Prices) : Type 0 where
  pub holds : IsHeldBy s worker leaf
  pub gives : MayGive o.problem s leaf table prices
  pub done : (worth : Bound) → AreWorth o.problem (sets_at s leaf) prices worth → ¬ (IsBelow worth (known s))

-- the cost is less than another, or there is no other
abbrev pub IsCheaper : ℤ → Option ℤ → Type 0
IsCheaper cost None = Unit {0}
IsCheaper cost (Some other) = cost <ℤ other

-- the plan that is added is one of the instance and has the cost, and has the next number
pub record IsAccepted (p : Problem) (s : State) (cost : ℤ) (number : Option ℕ) (added : Option Checked) : Type 0 where
  pub plan : Checked
  pub adds : added ≡ Some plan
  pub next : number ≡ Some (length s.accepted)
  pub checked : IsChecked plan
  pub of_instance : plan.problem ≡ p
  pub costs : plan.cost ≡ cost

pub record MayOffer (o : Opening) (s : State) (worker : ℕ) (cost : ℤ) (number : Option ℕ) (added : Option Checked)
    : Type 0 where
  pub leaf : ℕ
  pub holds : IsHeldBy s worker leaf
  pub first_time : ¬ (IsAmong worker s.offered)
  pub accepted : IsCheaper cost (known s) → IsAccepted o.problem s cost number added
  pub refused : ¬ (IsCheaper cost (known s)) → (number ≡ None) × (added ≡ None)

-- the step may come in the state
abbrev pub MayCome : Opening → State → FullStep → Type 0
MayCome o s (Took worker leaf) = MayTake o s worker leaf
MayCome o s (Split worker leaf table trip left prices) = MaySplit o s worker leaf table trip left prices
MayCome o s (Closed worker leaf table prices) = MayClose o s worker leaf table prices
MayCome o s (Offered worker cost number added) = MayOffer o s worker cost number added
MayCome o s (GaveBack worker leaf) = IsHeldBy s worker leaf

-- the leaf's two parts
abbrev pub left_part : State → ℕ → ℕ → TripNo → LayerSet → Place
left_part s leaf table trip left = record { spot = Free table; sets = with_set (sets_at s leaf) trip left }

abbrev pub right_part : State → ℕ → ℕ → TripNo → LayerSet → Place
right_part s leaf table trip left =
    record { spot = Free table; sets = with_set (sets_at s leaf) trip (right_of (sets_at s leaf) trip left) }

-- the state after a step
abbrev pub after : State → FullStep → State
after s (Took worker leaf) = record s {
  places = with_spot s.places leaf (Held worker (table_of (spot_at s leaf)));
  offered = filter (λ other. not (other == worker)) s.offered;
}
after s (Split worker leaf table trip left prices) = record s {
  places = with_spot s.places leaf (Inner trip left (length s.places) (length s.places + 1))
      ++ left_part s leaf table trip left ∷ right_part s leaf table trip left ∷ [];
  tables = s.tables ++ prices ∷ [];
  finished = s.finished + 1;
}
after s (Closed worker leaf table prices) = record s {
  places = with_spot s.places leaf (ClosedSpot table);
  tables = s.tables ++ prices ∷ [];
  finished = s.finished + 1;
}
after s (Offered worker cost number added) = record s {
  accepted = s.accepted ++ plans_of added;
  offered = worker ∷ s.offered;
}
after s (GaveBack worker leaf) = record s {
  places = with_spot s.places leaf (Free (table_of (spot_at s leaf)));
  gone = worker ∷ s.gone;
}

-- the steps lead from the state to this one, and each may come where those before it lead to
abbrev pub state_after : State → List FullStep → State
state_after s [] = s
state_after s (step ∷ steps) = state_after (after s step) steps

abbrev pub MayFollow : Opening → State → List FullStep → Type 0
MayFollow o s [] = Unit {0}
MayFollow o s (step ∷ steps) = MayCome o s step × MayFollow o (after s step) steps

-- the steps are a history of the search that began so, and lead to this state
abbrev pub IsHistory : Opening → List FullStep → Type 0
IsHistory o steps = MayFollow o (first_state o) steps

abbrev pub state_of : Opening → List FullStep → State
state_of o steps = state_after (first_state o) steps
