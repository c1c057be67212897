-- What the dearest piece of a layer can cost, and what a trip of so many is paid for at most.
use Rattle.std.specs.Prelude.{ℕ, ◌+◌, ◌*◌, ◌/◌, max, nat_abs}
use Rattle.vs_instance.specs.declared.layer.Layer.{Layer}
use Rattle.vs_instance.specs.declared.limits.TheConstants.{MAX_METRES, MAX_MULTIPLIER_SUM, TWO_DAYS, USUAL_TRIPS}

-- what one piece can cost at most by the rates of the layer, in cost units: a vehicle for the day, all minutes of two
-- days, and the longest way
abbrev pub dearest : Layer → ℕ
dearest layer = layer.fixed + layer.per_minute * TWO_DAYS + layer.per_metre * MAX_METRES

-- what each of so many trips is paid for at most, in 1/1000 of a cost unit
abbrev pub most_multiplier : ℕ → ℕ
most_multiplier trips = nat_abs MAX_MULTIPLIER_SUM / max trips USUAL_TRIPS
