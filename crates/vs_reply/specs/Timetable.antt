-- The timetable of a plan's blocks.
use Rattle.std.specs.Prelude.{ℕ, ◌+◌, List, [], ◌∷◌, ◌++◌, flat_map, codes, decimal, Option, Some, None, ℤ, slice_index_or}
use Rattle.std.specs.List.{enumerate_from}
use Rattle.vs_types.specs.declared.numbers.LayerNo.{LayerNo}
use Rattle.vs_types.specs.declared.numbers.TripNo.{TripNo}
use Rattle.vs_instance.specs.Problem.{Problem}
use Rattle.vs_instance.specs.Ways.{trip_of}
use Rattle.vs_instance.specs.Blocks.{block_cost, pull_in_minute, pull_out_minute, rest_times}
use Rattle.vs_instance.specs.Plan.{LayerBlock}
use Rattle.vs_plan.specs.Blocks.{blocks_of}
use Rattle.vs_rows.specs.declared.document.Document.{Document}
use Rattle.vs_rows.specs.Fields.{time_field}
use Rattle.vs_reader.specs.Names.{NameLists, name_of}
use Rattle.vs_reader.specs.Rows.{Row}

-- `vehicle`, NO, LAYER, OUT, IN, COST: when the vehicle of block k, counted from 0, leaves its depot first, when it is
-- back for the day, and what it costs
abbrev pub vehicle_row : Problem → NameLists → ℕ → LayerBlock → Row
vehicle_row p names k b = codes "vehicle" ∷ decimal (k + 1) ∷ name_of names.layers b.0.0
    ∷ time_field (pull_out_minute p b.0 b.1) ∷ time_field (pull_in_minute p b.0 b.1) ∷ decimal
    (block_cost p b.0 b.1) ∷ []

-- `run`, NO, TRIP, FROM, START, TO, END
abbrev pub run_row : Problem → NameLists → ℕ → TripNo → Row
run_row p names k i = codes "run" ∷ decimal (k + 1) ∷ name_of names.trips i.0
    ∷ name_of names.stops (trip_of p i.0).from.0 ∷ time_field (trip_of p i.0).start
    ∷ name_of names.stops (trip_of p i.0).to.0 ∷ time_field (trip_of p i.0).end ∷ []

-- `rest`, NO, IN, OUT: when the vehicle is back in its depot between two trips, and when it leaves again
abbrev pub rest_row : ℕ → ℕ × ℕ → Row
rest_row k times = codes "rest" ∷ decimal (k + 1) ∷ time_field times.0 ∷ time_field times.1 ∷ []

-- nothing where it goes straight
abbrev pub rest_rows : ℕ → Option (ℕ × ℕ) → List Row
rest_rows k None = []
rest_rows k (Some times) = rest_row k times ∷ []

-- what a vehicle of layer l does between the ends of trips i and j: it goes by its depot, or straight, and runs trip j
abbrev pub next_rows : Problem → NameLists → ℕ → LayerNo → TripNo → TripNo → List Row
next_rows p names k l i j = rest_rows k (rest_times p l i j) ++ run_row p names k j ∷ []

-- what it does behind trip i
abbrev pub rows_behind : Problem → NameLists → ℕ → LayerNo → TripNo → List TripNo → List Row
rows_behind p names k l i [] = []
rows_behind p names k l i (j ∷ trips) = next_rows p names k l i j ++ rows_behind p names k l j trips

-- its trips in order, and between them where it rests
abbrev pub run_rows : Problem → NameLists → ℕ → LayerNo → List TripNo → List Row
run_rows p names k l [] = []
run_rows p names k l (i ∷ trips) = run_row p names k i ∷ rows_behind p names k l i trips

-- the trip at a place
abbrev pub trip_at : List TripNo → ℕ → TripNo
trip_at trips place = slice_index_or trips place (record { 0 = 0 })

-- a vehicle, and what it does
abbrev pub vehicle_rows : Problem → NameLists → ℕ → LayerBlock → List Row
vehicle_rows p names k b = vehicle_row p names k b ∷ run_rows p names k b.0 b.1

abbrev pub timetable : Problem → NameLists → List LayerBlock → List Row
timetable p names blocks = flat_map (λ e. vehicle_rows p names e.0 e.1) (enumerate_from 0 blocks)

-- nothing where no cost is printed
abbrev pub rows_beside : Problem → NameLists → List LayerBlock → Option ℤ → List Row
rows_beside p names blocks None = []
rows_beside p names blocks (Some cost) = timetable p names blocks

abbrev pub timetable_of : Problem → NameLists → Document → List Row
timetable_of p names d = rows_beside p names (blocks_of d.plan) d.cost
