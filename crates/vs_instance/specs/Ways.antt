-- Which trips a layer may run, and which moves without passengers there are.
use Rattle.std.specs.Prelude.{ℕ, ◌+◌, ◌≤◌, ◌==◌, if◌then◌else◌, Option, Some, None, IsSome, IsSomeAnd, slice_index_or}
use Rattle.std.specs.FinMap as map
use Rattle.vs_types.specs.LayerSet.{Has}
use Rattle.vs_instance.specs.declared.layer.Layer.{Layer}
use Rattle.vs_instance.specs.declared.trip.Trip.{Trip}
use Rattle.vs_instance.specs.declared.way.Way.{Way}
use Rattle.vs_instance.specs.Problem.{Problem}

-- the way from a stop to itself
abbrev pub no_way : Way
no_way = record { minutes = 0; metres = 0 }

-- the way from stop k to stop s: nothing at all from a stop to itself, else the deadhead, where it is given
abbrev pub way : Problem → ℕ → ℕ → Option Way
way p k s = if k == s then Some no_way else map.get p.deadheads (k, s)

-- what stands past the end of the trips and of the layers
abbrev pub no_trip : Trip
no_trip =
    record { from = record { 0 = 0 }; start = 0; to = record { 0 = 0 }; end = 0; metres = 0; layers = record { 0 = 0 } }

abbrev pub no_layer : Layer
no_layer = record { depot = record { 0 = 0 }; fleet = 0; fixed = 0; per_minute = 0; per_metre = 0; stay = None }

-- trip i, and layer l
abbrev pub trip_of : Problem → ℕ → Trip
trip_of p i = slice_index_or p.trips i no_trip

abbrev pub layer_of : Problem → ℕ → Layer
layer_of p l = slice_index_or p.layers l no_layer

-- the ways that a vehicle takes from trip i to trip j, from the depot of layer l to trip i, and from trip i back to the
-- depot
abbrev pub way_between : Problem → ℕ → ℕ → Option Way
way_between p i j = way p (trip_of p i).to.0 (trip_of p j).from.0

abbrev pub way_out : Problem → ℕ → ℕ → Option Way
way_out p l i = way p (layer_of p l).depot.0 (trip_of p i).from.0

abbrev pub way_in : Problem → ℕ → ℕ → Option Way
way_in p l i = way p (trip_of p i).to.0 (layer_of p l).depot.0

-- layer l may run trip i
abbrev pub Permitted : Problem → ℕ → ℕ → Type 0
Permitted p l i = Has (trip_of p i).layers l

-- a vehicle that ran trip i is at trip j's start in time
abbrev pub Connects : Problem → ℕ → ℕ → Type 0
Connects p i j = IsSomeAnd (way_between p i j) (λ w. (trip_of p i).end + w.minutes ≤ (trip_of p j).start)

-- a vehicle of layer l can leave its depot at minute 0 or later and be at trip i's start in time
abbrev pub HasPullOut : Problem → ℕ → ℕ → Type 0
HasPullOut p l i = IsSomeAnd (way_out p l i) (λ w. w.minutes ≤ (trip_of p i).start)

-- a vehicle of layer l can come back to its depot after trip i
abbrev pub HasPullIn : Problem → ℕ → ℕ → Type 0
HasPullIn p l i = IsSome (way_in p l i)

-- a vehicle of layer l that ran trip i can pull in, rest in the depot for at least the layer's stay, and pull out again
-- in time for trip j
abbrev pub Rests : Problem → ℕ → ℕ → ℕ → Type 0
Rests p l i j =
    IsSomeAnd (layer_of p l).stay (λ stay. IsSomeAnd (way_in p l i) (λ back. IsSomeAnd (way_out p l j) (λ out.
    (trip_of p i).end + back.minutes + stay + out.minutes ≤ (trip_of p j).start)))
