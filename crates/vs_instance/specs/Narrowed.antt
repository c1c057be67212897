-- The part of a problem in which fewer layers may run the trips.
use Rattle.std.specs.Prelude.{ℕ, List, length, map, slice_index_or}
use Rattle.std.specs.List.{range_with_len}
use Rattle.vs_types.specs.declared.layer_set.LayerSet.{LayerSet}
use Rattle.vs_instance.specs.declared.trip.Trip.{Trip}
use Rattle.vs_instance.specs.Problem.{Problem}
use Rattle.vs_instance.specs.Restriction.{set_of}
use Rattle.vs_instance.specs.Ways.{no_trip}

-- the trip that these layers may run
abbrev pub with_layers : Trip → LayerSet → Trip
with_layers trip layers = record {
  from = trip.from;
  start = trip.start;
  to = trip.to;
  end = trip.end;
  metres = trip.metres;
  layers = layers;
}

-- trip i, which the layers of its set may run, and all trips so
abbrev pub narrowed_trip : List Trip → List LayerSet → ℕ → Trip
narrowed_trip trips sets i = with_layers (slice_index_or trips i no_trip) (set_of sets i)

abbrev pub narrowed_trips : List Trip → List LayerSet → List Trip
narrowed_trips trips sets = map (narrowed_trip trips sets) (range_with_len 0 (length trips))

-- the problem whose trips may be run in the layers of these sets, and all else the same
abbrev pub narrowed : Problem → List LayerSet → Problem
narrowed p sets = record {
  stops = p.stops;
  deadheads = p.deadheads;
  layers = p.layers;
  trips = narrowed_trips p.trips sets;
}
