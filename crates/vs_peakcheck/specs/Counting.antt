-- The problem in which a plan costs as much as it has vehicles of one layer.
use Rattle.std.specs.Prelude.{ℕ, ◌==◌, List, [], ◌∷◌, length, map, max, filter, None, slice_index}
use Rattle.std.specs.Int.{bit_at}
use Rattle.std.specs.List.{range_with_len}
use Rattle.vs_types.specs.declared.numbers.LayerNo.{LayerNo}
use Rattle.vs_types.specs.declared.numbers.TripNo.{TripNo}
use Rattle.vs_instance.specs.declared.layer.Layer.{Layer}
use Rattle.vs_instance.specs.declared.trip.Trip.{Trip}
use Rattle.vs_instance.specs.declared.limits.TheConstants.{USUAL_TRIPS}
use Rattle.vs_instance.specs.Problem.{Problem}
use Rattle.vs_instance.specs.Ways.{layer_of, trip_of}
use Rattle.vs_instance.specs.Plan.{LayerBlock}

-- the numbers of the trips that layer l may run, in order
abbrev pub permitted_trips : Problem → ℕ → List ℕ
permitted_trips p l = filter (λ i. bit_at (trip_of p i).layers.0 l == 1) (range_with_len 0 (length p.trips))

-- the layer with so many vehicles, each of which costs 1 for the day and nothing else, and none of which rests
abbrev pub counted_layer : ℕ → Layer → Layer
counted_layer fleet layer =
    record { depot = layer.depot; fleet = fleet; fixed = 1; per_minute = 0; per_metre = 0; stay = None }

-- the trip, permitted in the only layer there is
abbrev pub counted_trip : Trip → Trip
counted_trip trip = record {
  from = trip.from;
  start = trip.start;
  to = trip.to;
  end = trip.end;
  metres = trip.metres;
  layers = record { 0 = 1 };
}

-- the same stops and deadheads, layer l alone with so many vehicles, and the trips that it may run, in order
abbrev pub counting_with : ℕ → Problem → ℕ → Problem
counting_with fleet p l = record {
  stops = p.stops;
  deadheads = p.deadheads;
  layers = counted_layer fleet (layer_of p l) ∷ [];
  trips = map (λ i. counted_trip (trip_of p i)) (permitted_trips p l);
}

-- at least as many vehicles as there are trips: a plan never needs more
abbrev pub counted_fleet : Problem → ℕ
counted_fleet p = max (length p.trips) USUAL_TRIPS

abbrev pub counting : Problem → ℕ → Problem
counting p l = counting_with (counted_fleet p) p l

abbrev pub numbered : ℕ → TripNo
numbered i = record { 0 = i }

-- the number that trip k of that problem has in p
abbrev pub own_number : Problem → ℕ → ℕ → ℕ
own_number p l k = slice_index (permitted_trips p l) k

abbrev pub own_trips : Problem → ℕ → List TripNo → List TripNo
own_trips p l trips = map (λ k. numbered (own_number p l k.0)) trips

-- blocks of that problem as blocks of layer l
abbrev pub own_blocks : Problem → LayerNo → List LayerBlock → List LayerBlock
own_blocks p l blocks = map (λ b. (l, own_trips p l.0 b.1)) blocks
