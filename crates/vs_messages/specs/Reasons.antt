-- What a ray tells of why there is no plan: the trips that it names, a minute at which all are under way, and how many
-- vehicles may run them.
use Rattle.std.specs.Prelude.{◌≡◌, ℕ, ◌<◌, ◌≤◌, ◌==◌, Bool, List, length, map, filter, sum, All, ℤ, pos, int_lt, if◌then◌else◌}
use Rattle.std.specs.Int.{bit_at}
use Rattle.std.specs.List.{list_any, range_with_len}
use Rattle.vs_types.specs.declared.numbers.TripNo.{TripNo}
use Rattle.vs_types.specs.LayerSet.{members}
use Rattle.vs_instance.specs.declared.limits.TheConstants.{TWO_DAYS}
use Rattle.vs_instance.specs.Problem.{Problem}
use Rattle.vs_instance.specs.Ways.{layer_of, trip_of}
use Rattle.vs_prices.specs.declared.table.Table.{Table}
use Rattle.vs_prices.specs.Worth.{least, trip_price}
use Rattle.vs_messages.specs.declared.reason.Reason.{Reason}
use Rattle.vs_messages.specs.declared.reason.Reason.TheVariants.{Minute, Trips}

-- what trip i counts in a table, in the layer of those that may run it where that is least
abbrev pub count_of : Problem → Table → ℕ → ℤ
count_of p table i = least (map (trip_price p table i) (members (trip_of p i).layers))

-- the trips that count more than 0, in number order
abbrev pub counts : Problem → Table → TripNo → Bool
counts p table i = int_lt (pos 0) (count_of p table i.0)

abbrev pub numbered : ℕ → TripNo
numbered i = record { 0 = i }

abbrev pub counted_trips : Problem → Table → List TripNo
counted_trips p table = filter (counts p table) (map numbered (range_with_len 0 (length p.trips)))

-- these are trips of the problem
abbrev pub AreTripsOf : Problem → List TripNo → Type 0
AreTripsOf p trips = All (λ i. i.0 < length p.trips) trips

-- each of the trips is under way at the minute
abbrev pub AreUnderWay : Problem → List TripNo → ℕ → Type 0
AreUnderWay p trips minute = All (λ i. ((trip_of p i.0).start ≤ minute) × (minute < (trip_of p i.0).end)) trips

-- layer l may run some of the trips
abbrev pub may_run_some : Problem → List TripNo → ℕ → Bool
may_run_some p trips l = list_any (λ i. bit_at (trip_of p i.0).layers.0 l == 1) trips

-- the vehicles of all layers that may run some of the trips, each layer counted once
abbrev pub fleet_for : Problem → List TripNo → ℕ → ℕ
fleet_for p trips l = if may_run_some p trips l then (layer_of p l).fleet else 0

abbrev pub vehicles_for : Problem → List TripNo → ℕ
vehicles_for p trips = sum (map (fleet_for p trips) (range_with_len 0 (length p.layers)))

-- there are more of the trips than vehicles that may run them, and all are under way at the minute
pub record IsShortAt (p : Problem) (trips : List TripNo) (minute : ℕ) : Type 0 where
  pub under_way : AreUnderWay p trips minute
  pub short : vehicles_for p trips < length trips

-- The reason names the trips that the ray counts: where these are too many for their vehicles at some minute, that
-- minute and how many vehicles these are.
abbrev pub IsReasonOf : Problem → Table → Reason → Type 0
IsReasonOf p ray (Minute minute trips vehicles) =
    (trips.items ≡ counted_trips p ray) × (vehicles ≡ vehicles_for p trips.items) × IsShortAt p trips.items minute
IsReasonOf p ray (Trips trips) =
    (trips.items ≡ counted_trips p ray)
    × ((minute : ℕ) → minute < TWO_DAYS → ¬ (IsShortAt p trips.items minute))

-- the trips that a reason names
abbrev pub trips_of : Reason → List TripNo
trips_of (Minute minute trips vehicles) = trips.items
trips_of (Trips trips) = trips.items
