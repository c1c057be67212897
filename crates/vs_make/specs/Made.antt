-- The instance of n trips that `make` writes, as numbers and lists, and texts that are an instance text and no more.
use Rattle.std.specs.Prelude.{ℕ, ◌+◌, ◌*◌, ◌/◌, ◌==◌, not, List, [], map, filter, flat_map, codes, None}
use Rattle.std.specs.List.{range_with_len}
use Rattle.vs_instance.specs.declared.parts.Deadhead.{Deadhead}
use Rattle.vs_instance.specs.declared.layer.Layer.{Layer}
use Rattle.vs_instance.specs.declared.trip.Trip.{Trip}
use Rattle.vs_instance.specs.Misfits.{deadheads_of}
use Rattle.vs_instance.specs.Problem.{Problem}
use Rattle.vs_reader.specs.Names.{NameLists}
use Rattle.vs_reader.specs.Texts.{EndsInLine, StandsFor}
use Rattle.vs_rows.specs.Fields.{numbered}
use Rattle.vs_make.specs.declared.grid.TheConstants.{STOPS, DEPOTS}
use Rattle.vs_make.specs.declared.sequence.Draws.{Draws}
use Rattle.vs_make.specs.Generator.{depot_of, distance, draws, end_of, layer_name, number_at, stop_name}

-- the names of the stops, of the layers and of n trips
unfoldable pub stop_names : List (List ℕ)
stop_names = map stop_name (range_with_len 0 STOPS)

unfoldable pub depot_names : List (List ℕ)
depot_names = map layer_name (range_with_len 0 DEPOTS)

abbrev pub made_names : ℕ → NameLists
made_names n = record {
  stops = stop_names;
  layers = depot_names;
  trips = map (numbered (codes "T")) (range_with_len 0 n);
}

-- the deadhead from stop k to stop s: 6 minutes and 2500 metres for each step of the grid
abbrev pub made_deadhead : ℕ → ℕ → Deadhead
made_deadhead k s = record {
  from = record { 0 = k };
  to = record { 0 = s };
  minutes = 6 * distance k s;
  metres = 2500 * distance k s;
}

-- those from stop k to each other stop, and those from all stops
abbrev pub made_deadheads_from : ℕ → List Deadhead
made_deadheads_from k = map (made_deadhead k) (filter (λ s. not (s == k)) (range_with_len 0 STOPS))

unfoldable pub made_deadheads : List Deadhead
made_deadheads = flat_map made_deadheads_from (range_with_len 0 STOPS)

-- layer l of an instance of n trips
abbrev pub made_layer : ℕ → ℕ → Layer
made_layer n l = record {
  depot = record { 0 = depot_of l };
  fleet = n / 4 + 8;
  fixed = 50000 + 2000 * l;
  per_minute = 10;
  per_metre = 1;
  stay = None;
}

unfoldable pub made_layers : ℕ → List Layer
made_layers n = map (made_layer n) (range_with_len 0 DEPOTS)

-- a trip as it is drawn, and trip i of n
abbrev pub made_trip : Draws → Trip
made_trip d = record {
  from = record { 0 = d.from };
  start = d.start;
  to = record { 0 = d.to };
  end = end_of d;
  metres = 3000 * distance d.from d.to;
  layers = d.layers;
}

abbrev pub drawn_trip : ℕ → ℕ → Trip
drawn_trip n i = made_trip (draws (number_at (n + 1) (5 * i)))

abbrev pub made_problem : ℕ → Problem
made_problem n = record {
  stops = STOPS;
  deadheads = deadheads_of made_deadheads;
  layers = made_layers n;
  trips = map (drawn_trip n) (range_with_len 0 n);
}

-- The bytes are an instance text, which stands for the instance with its names. Nothing stands behind its records, and
-- a line end ends the last of them.
pub record IsWholeText (bytes : List ℕ) (p : Problem) (names : NameLists) : Type 0 where
  pub before : ℕ
  pub stands : StandsFor bytes p names before []
  pub ends : EndsInLine bytes
