-- What one vehicle runs from its pull-out to its pull-in, and what that costs.
use Rattle.std.specs.Prelude.{ℕ, ◌+◌, ◌-◌, ◌*◌, ◌<◌, nat_lt, Bool, false, if◌then◌else◌, List, [], ◌∷◌, length, All, sum_by, Option, Some, None, slice_index_or}
use Rattle.std.specs.List.{AllAdjacentBelow}
use Rattle.std.specs.Option.{option_map_or}
use Rattle.vs_types.specs.declared.numbers.LayerNo.{LayerNo}
use Rattle.vs_types.specs.declared.numbers.TripNo.{TripNo}
use Rattle.vs_instance.specs.declared.way.Way.{Way}
use Rattle.vs_instance.specs.Problem.{Problem}
use Rattle.vs_instance.specs.Pieces.{direct_piece, rest_piece}
use Rattle.vs_instance.specs.Ways.{Permitted, Connects, HasPullOut, HasPullIn, trip_of, layer_of, way_out, way_in, way_between}

-- the first and the last trip of a list that isn't empty
abbrev pub first_of : List TripNo → ℕ
first_of trips = (slice_index_or trips 0 (record { 0 = 0 })).0

abbrev pub last_of : List TripNo → ℕ
last_of trips = (slice_index_or trips (length trips - 1) (record { 0 = 0 })).0

-- a block of layer l: some trips of the instance, all permitted in l, each of which connects to the next, with a
-- pull-out to the first and a pull-in from the last
pub record IsBlock (p : Problem) (l : LayerNo) (trips : List TripNo) : Type 0 where
  pub layer : l.0 < length p.layers
  pub some_trip : 0 < length trips
  pub of_instance : All (λ i. i.0 < length p.trips) trips
  pub permitted : All (λ i. Permitted p l.0 i.0) trips
  pub connected : AllAdjacentBelow (λ i j. Connects p i.0 j.0) trips (length trips)
  pub pull_out : HasPullOut p l.0 (first_of trips)
  pub pull_in : HasPullIn p l.0 (last_of trips)

-- the minutes and the metres of a way, 0 where there is none
abbrev pub minutes_of : Option Way → ℕ
minutes_of w = option_map_or (λ x. x.minutes) w 0

abbrev pub metres_of : Option Way → ℕ
metres_of w = option_map_or (λ x. x.metres) w 0

-- when a vehicle leaves its depot for trip i, and when it is back there after it, in minutes from 0:00 of the first day
abbrev pub leaves_for : Problem → LayerNo → ℕ → ℕ
leaves_for p l i = (trip_of p i).start - minutes_of (way_out p l.0 i)

abbrev pub back_after : Problem → LayerNo → ℕ → ℕ
back_after p l i = (trip_of p i).end + minutes_of (way_in p l.0 i)

-- when the vehicle of a block leaves its depot first, and when it is back for the day
abbrev pub pull_out_minute : Problem → LayerNo → List TripNo → ℕ
pull_out_minute p l trips = leaves_for p l (first_of trips)

abbrev pub pull_in_minute : Problem → LayerNo → List TripNo → ℕ
pull_in_minute p l trips = back_after p l (last_of trips)

-- between trips i and j the vehicle goes by the depot: i rests before j there, and that costs less than straight on
abbrev pub goes_by_depot : Problem → LayerNo → TripNo → TripNo → Bool
goes_by_depot p l i j =
    option_map_or (λ rest. option_map_or (nat_lt rest) (direct_piece p l.0 i.0 j.0) false) (rest_piece p l.0 i.0 j.0)
    false

-- when it is back in the depot between them, and when it leaves it again, where it goes that way
abbrev pub rest_times : Problem → LayerNo → TripNo → TripNo → Option (ℕ × ℕ)
rest_times p l i j = if goes_by_depot p l i j then Some (back_after p l i.0, leaves_for p l j.0) else None

-- the minutes that it rests in between
abbrev pub rested_between : Problem → LayerNo → TripNo → TripNo → ℕ
rested_between p l i j = option_map_or (λ times. times.1 - times.0) (rest_times p l i j) 0

-- the metres that it drives between them
abbrev pub driven_between : Problem → LayerNo → TripNo → TripNo → ℕ
driven_between p l i j = if goes_by_depot p l i j then
    metres_of (way_in p l.0 i.0) + metres_of (way_out p l.0 j.0) else metres_of (way_between p i.0 j.0)

-- all minutes rested, and all metres driven, between trips that follow each other
abbrev pub rested_minutes : Problem → LayerNo → List TripNo → ℕ
rested_minutes p l [] = 0
rested_minutes p l (i ∷ []) = 0
rested_minutes p l (i ∷ j ∷ trips) = rested_between p l i j + rested_minutes p l (j ∷ trips)

abbrev pub metres_between : Problem → LayerNo → List TripNo → ℕ
metres_between p l [] = 0
metres_between p l (i ∷ []) = 0
metres_between p l (i ∷ j ∷ trips) = driven_between p l i j + metres_between p l (j ∷ trips)

-- all metres driven: out of the depot, with passengers, between trips, and back into the depot
abbrev pub block_metres : Problem → LayerNo → List TripNo → ℕ
block_metres p l trips = metres_of (way_out p l.0 (first_of trips)) + sum_by (λ i. (trip_of p i.0).metres) trips
    + metres_between p l trips + metres_of (way_in p l.0 (last_of trips))

-- what a block costs, from clock minutes and metres: minutes rested in the depot cost nothing
abbrev pub block_cost : Problem → LayerNo → List TripNo → ℕ
block_cost p l trips = (layer_of p l.0).fixed
    + (layer_of p l.0).per_minute * (pull_in_minute p l trips - pull_out_minute p l trips - rested_minutes p l trips)
    + (layer_of p l.0).per_metre * block_metres p l trips
