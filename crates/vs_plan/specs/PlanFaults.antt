-- What is wrong with blocks that are to be a plan, in the order in which it is answered.
use Rattle.std.specs.Prelude.{◌≡◌, ℕ, ◌-◌, Bool, not, nat_lt, ◌==◌, is_none, map, if◌then◌else◌, List, ◌++◌, length, flat_map, Some, slice_index_or}
use Rattle.std.specs.Int.{bit_at}
use Rattle.std.specs.List.{enumerate_from, range_with_len}
use Rattle.vs_types.specs.declared.numbers.LayerNo.{LayerNo}
use Rattle.vs_types.specs.declared.numbers.TripNo.{TripNo}
use Rattle.vs_instance.specs.Firsts.{first, when}
use Rattle.vs_instance.specs.Problem.{Problem}
use Rattle.vs_instance.specs.Ways.{trip_of, layer_of}
use Rattle.vs_instance.specs.Pieces.{out_piece, link_piece, in_piece}
use Rattle.vs_instance.specs.Blocks.{last_of}
use Rattle.vs_instance.specs.Plan.{LayerBlock, times_run, vehicles_used}
use Rattle.vs_plan.specs.declared.plan_fault.PlanFault.{PlanFault}
use Rattle.vs_plan.specs.declared.plan_fault.PlanFault.TheVariants.{NotPermitted, NoPullOut, NoConnection, NoPullIn, Twice, Uncovered, Fleet}
use Rattle.vs_plan.specs.declared.plan_fault.PlanError.{PlanError}
use Rattle.vs_plan.specs.declared.plan_fault.PlanError.TheVariants as error

-- the numbers below a count, in order
abbrev pub numbers : ℕ → List ℕ
numbers count = range_with_len 0 count

-- the trip at a place, counted from 0
abbrev pub trip_at : List TripNo → ℕ → ℕ
trip_at trips place = (slice_index_or trips place (record { 0 = 0 })).0

-- whether layer l may run trip i
abbrev pub is_permitted : Problem → ℕ → ℕ → Bool
is_permitted p l i = bit_at (trip_of p i).layers.0 l == 1

-- how the vehicle of block b gets to the trip at a place: from the depot to the first, and else from the trip before
abbrev pub arrival_faults : Problem → ℕ → LayerNo → List TripNo → ℕ → List PlanFault
arrival_faults p b l trips place =
    if place == 0 then when (is_none (out_piece p l.0 (trip_at trips place))) (NoPullOut b)
    else when (is_none (link_piece p l.0 (trip_at trips (place - 1)) (trip_at trips place))) (NoConnection b place)

abbrev pub place_faults : Problem → ℕ → LayerNo → List TripNo → ℕ → List PlanFault
place_faults p b l trips place =
    when (not (is_permitted p l.0 (trip_at trips place))) (NotPermitted b place) ++ arrival_faults p b l trips place

-- of block b: at its trips in order, and in how its vehicle gets back to the depot
abbrev pub trips_faults : Problem → ℕ → LayerNo → List TripNo → List PlanFault
trips_faults p b l trips = flat_map (place_faults p b l trips) (numbers (length trips))

abbrev pub return_faults : Problem → ℕ → LayerNo → List TripNo → List PlanFault
return_faults p b l trips = when (is_none (in_piece p l.0 (last_of trips))) (NoPullIn b)

abbrev pub block_faults : Problem → ℕ → LayerBlock → List PlanFault
block_faults p b block = trips_faults p b block.0 block.1 ++ return_faults p b block.0 block.1

abbrev pub blocks_faults : Problem → List LayerBlock → List PlanFault
blocks_faults p blocks = flat_map (λ e. block_faults p e.0 e.1) (enumerate_from 0 blocks)

-- how often each trip of the instance stands in the blocks, in number order
abbrev pub times_of : Problem → List LayerBlock → List ℕ
times_of p blocks = map (times_run blocks) (numbers (length p.trips))

-- trip i, which stands so often
abbrev pub twice : ℕ → ℕ → List PlanFault
twice i times = when (nat_lt 1 times) (Twice (record { 0 = i }))

abbrev pub uncovered : ℕ → ℕ → List PlanFault
uncovered i times = when (times == 0) (Uncovered (record { 0 = i }))

-- of trips that stand so often in number order, those that stand more than once, and those that stand nowhere
abbrev pub twice_faults : List ℕ → List PlanFault
twice_faults times = flat_map (λ e. twice e.0 e.1) (enumerate_from 0 times)

abbrev pub uncovered_faults : List ℕ → List PlanFault
uncovered_faults times = flat_map (λ e. uncovered e.0 e.1) (enumerate_from 0 times)

-- the layers of which more vehicles are used than there are, in number order, with how many are used
abbrev pub layer_faults : Problem → List LayerBlock → ℕ → List PlanFault
layer_faults p blocks l =
    when (nat_lt (layer_of p l).fleet (vehicles_used blocks l)) (Fleet (record { 0 = l }) (vehicles_used blocks l))

abbrev pub fleet_faults : Problem → List LayerBlock → List PlanFault
fleet_faults p blocks = flat_map (layer_faults p blocks) (numbers (length p.layers))

-- the trips that are run too often, and then those that aren't run
abbrev pub cover_faults : Problem → List LayerBlock → List PlanFault
cover_faults p blocks = twice_faults (times_of p blocks) ++ uncovered_faults (times_of p blocks)

-- of the blocks together: the trips that they run too often or not at all, and the vehicles that they use
abbrev pub joint_faults : Problem → List LayerBlock → List PlanFault
joint_faults p blocks = cover_faults p blocks ++ fleet_faults p blocks

-- all that is wrong, in order: each block by itself, and then the blocks together
abbrev pub faults_of : Problem → List LayerBlock → List PlanFault
faults_of p blocks = blocks_faults p blocks ++ joint_faults p blocks

-- the error is a fault
abbrev pub IsFault : PlanError → Type 0
IsFault (error.Fault fault) = Unit {0}
IsFault error.Memory = ⊥

-- a fault that is answered is the first of all
abbrev pub IsFirstFault : Problem → List LayerBlock → PlanError → Type 0
IsFirstFault p blocks (error.Fault fault) = first (faults_of p blocks) ≡ Some fault
IsFirstFault p blocks error.Memory = Unit {0}
