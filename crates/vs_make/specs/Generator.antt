-- The instance that `make N` writes: stops in a grid, all deadheads between them, four layers, and N trips drawn from
-- one sequence of numbers.
use Rattle.std.specs.Prelude.{ℕ, zero, suc, ◌+◌, ◌-◌, ◌*◌, ◌/◌, ◌%◌, ◌==◌, nat_lt, not, if◌then◌else◌, List, [], ◌∷◌, ◌++◌, map, filter, flat_map, codes, decimal}
use Rattle.std.specs.Int.{abs_diff}
use Rattle.std.specs.List.{range_with_len}
use Rattle.vs_types.specs.declared.layer_set.LayerSet.{LayerSet}
use Rattle.vs_types.specs.LayerSet.{members}
use Rattle.vs_make.specs.declared.grid.TheConstants.{STOPS, DEPOTS}
use Rattle.vs_make.specs.declared.sequence.Draws.{Draws}
use Rattle.vs_make.specs.declared.sequence.TheConstants.{MULTIPLIER, MODULUS}
use Rattle.vs_instance.specs.declared.limits.TheConstants.{USUAL_TRIPS}
use Rattle.vs_reader.specs.declared.version.Version.{Version}
use Rattle.vs_reader.specs.declared.version.Version.TheVariants.{One, Three}
use Rattle.vs_reader.specs.Rows.{Field, Row}
use Rattle.vs_reader.specs.Versions.{header}
use Rattle.vs_rows.specs.Fields.{numbered, time_field}

-- Stops stand in three rows of four, numbered from 0. How far two of them are apart: the difference in x and that in y
-- together.
abbrev pub distance : ℕ → ℕ → ℕ
distance k s = abs_diff (k % 4) (s % 4) + abs_diff (k / 4) (s / 4)

abbrev pub stop_name : ℕ → Field
stop_name k = numbered (codes "S") k

abbrev pub layer_name : ℕ → Field
layer_name l = numbered (codes "L") l

-- `stop`, NAME
abbrev pub stop_row : ℕ → Row
stop_row k = codes "stop" ∷ stop_name k ∷ []

-- `deadhead`, FROM, TO, MINUTES, METRES: 6 minutes and 2500 metres for each step of the grid
abbrev pub deadhead_row : ℕ → ℕ → Row
deadhead_row k s = codes "deadhead" ∷ stop_name k ∷ stop_name s
    ∷ decimal (6 * distance k s) ∷ decimal (2500 * distance k s) ∷ []

-- from stop k to each other stop
abbrev pub deadheads_from : ℕ → List Row
deadheads_from k = map (deadhead_row k) (filter (λ s. not (s == k)) (range_with_len 0 STOPS))

-- the depots stand in the corners of the grid
abbrev pub depot_of : ℕ → ℕ
depot_of l = if l == 0 then 0 else (if l == 1 then 3 else (if l == 2 then 8 else 11))

-- `layer`, NAME, DEPOT, FLEET, FIXED, PER_MINUTE, PER_METRE, for an instance of n trips
abbrev pub layer_row : ℕ → ℕ → Row
layer_row n l = codes "layer" ∷ layer_name l ∷ stop_name (depot_of l) ∷ decimal (n / 4 + 8) ∷ decimal (50000 + 2000 * l)
    ∷ codes "10" ∷ codes "1" ∷ []

-- the sequence of numbers of an instance of n trips
abbrev pub next_number : ℕ → ℕ
next_number x = x * MULTIPLIER % MODULUS

abbrev pub number_at : ℕ → ℕ → ℕ
number_at x zero = x
number_at x (suc k) = number_at (next_number x) k

-- a number below the count of stops less one, as a stop other than this one
abbrev pub other_stop : ℕ → ℕ → ℕ
other_stop from b = if nat_lt b from then b else b + 1

-- what the five numbers behind x make of a trip
abbrev pub draws : ℕ → Draws
draws x = record {
  from = number_at x 1 % STOPS;
  to = other_stop (number_at x 1 % STOPS) (number_at x 2 % (STOPS - 1));
  start = 300 + number_at x 3 % 1080;
  extra = 5 + number_at x 4 % 20;
  layers = record { 0 = 1 + number_at x 5 % 15 };
}

abbrev pub end_of : Draws → ℕ
end_of d = d.start + (6 * distance d.from d.to + d.extra)

abbrev pub layer_names : LayerSet → List Field
layer_names set = map layer_name (members set)

-- `trip`, NAME, FROM, START, TO, END, METRES, and the LAYERs: 3000 metres for each step of the grid
abbrev pub trip_row : ℕ → Draws → Row
trip_row i d =
    codes "trip" ∷ numbered (codes "T") i ∷ stop_name d.from ∷ time_field d.start ∷ stop_name d.to ∷ time_field
    (end_of d)
    ∷ decimal (3000 * distance d.from d.to) ∷ layer_names d.layers

-- Trip i draws the five numbers behind the first 5 i.
abbrev pub drawn_row : ℕ → ℕ → Row
drawn_row n i = trip_row i (draws (number_at (n + 1) (5 * i)))

-- the version of the text of n trips: the first up to the limit of that version, and beyond it the third
abbrev pub made_version : ℕ → Version
made_version n = if nat_lt USUAL_TRIPS n then Three else One

-- the rows of the instance of n trips
abbrev pub make_rows : ℕ → List Row
make_rows n = header (made_version n) ∷ map stop_row (range_with_len 0 STOPS)
    ++ flat_map deadheads_from (range_with_len 0 STOPS) ++ map (layer_row n) (range_with_len 0 DEPOTS)
    ++ map (drawn_row n) (range_with_len 0 n)
