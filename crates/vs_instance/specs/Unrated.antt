-- The same problem where nothing costs anything.
use Rattle.std.specs.Prelude.{map}
use Rattle.vs_instance.specs.declared.layer.Layer.{Layer}
use Rattle.vs_instance.specs.Problem.{Problem}

-- the layer with rates of 0
abbrev pub unrated : Layer → Layer
unrated layer = record {
  depot = layer.depot;
  fleet = layer.fleet;
  fixed = 0;
  per_minute = 0;
  per_metre = 0;
  stay = layer.stay;
}

-- the problem with rates of 0 in each layer, and all else the same
abbrev pub without_rates : Problem → Problem
without_rates p =
    record { stops = p.stops; deadheads = p.deadheads; layers = map unrated p.layers; trips = p.trips }
