-- Deadheads in rows, read as a map from pairs of stops.
use Rattle.std.specs.Prelude.{ℕ, ◌+◌, ◌/◌, ◌%◌, List, [], ◌∷◌, Option, Some, None, map as each}
use Rattle.std.specs.FinMap as map
use Rattle.std.specs.List.{range_with_len}
use Rattle.vs_instance.specs.declared.way.Way.{Way}
use Rattle.vs_instance.specs.declared.layer.Layer.{Layer}
use Rattle.vs_instance.specs.declared.trip.Trip.{Trip}
use Rattle.vs_instance.specs.Problem.{Problem, pair_cmp}

-- how many stops there are, and which deadheads are given
pub record WayMap : Type 0 where
  pub stops : ℕ
  pub given : map.FinMap pair_cmp Way

-- the deadheads of the places from this one on, each place being that of a stop left and a stop reached
abbrev pub map_from : ℕ → ℕ → List (Option Way) → map.FinMap pair_cmp Way
map_from stops place [] = map.empty
map_from stops place (None ∷ places) = map_from stops (place + 1) places
map_from stops place (Some w ∷ places) = map.insert (map_from stops (place + 1) places) (place / stops, place % stops) w

abbrev pub way_map : ℕ → List (Option Way) → map.FinMap pair_cmp Way
way_map stops places = map_from stops 0 places

-- the deadheads from stop k to each stop in number order
abbrev pub row_of : WayMap → ℕ → List (Option Way)
row_of ways k = each (λ s. map.get ways.given (k, s)) (range_with_len 0 ways.stops)

-- the problem of these deadheads, layers and trips
abbrev pub problem_with : WayMap → List Layer → List Trip → Problem
problem_with ways layers trips = record { stops = ways.stops; deadheads = ways.given; layers = layers; trips = trips }
