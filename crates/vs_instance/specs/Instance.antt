-- What makes a problem an instance: the limits, and closed deadheads.
use Rattle.std.specs.Prelude.{◌≡◌, ◌≢◌, ℕ, ◌+◌, ◌*◌, ◌<◌, ◌≤◌, [], length, All, IfSome, IsSomeAnd, Some}
use Rattle.std.specs.FinMap as map
use Rattle.vs_types.specs.LayerSet.{Has, members}
use Rattle.vs_instance.specs.declared.layer.Layer.{Layer}
use Rattle.vs_instance.specs.declared.trip.Trip.{Trip}
use Rattle.vs_instance.specs.declared.way.Way.{Way}
use Rattle.vs_types.specs.declared.numbers.TheConstants.{MAX_LAYERS}
use Rattle.vs_instance.specs.declared.limits.TheConstants.{MAX_STOPS, MAX_TRIPS, MAX_FLEET, MAX_DEAREST_SUM, MAX_FIXED, MAX_PER_MINUTE, MAX_PER_METRE, MAX_STAY, MAX_MINUTES, MAX_METRES, TWO_DAYS}
use Rattle.vs_instance.specs.Dearest.{dearest}
use Rattle.vs_instance.specs.Problem.{Problem}

-- so many minutes a rest may last at least
abbrev pub IsStay : ℕ → Type 0
IsStay minutes = (1 ≤ minutes) × (minutes ≤ MAX_STAY)

-- a layer within the limits
pub record IsLayer (p : Problem) (layer : Layer) : Type 0 where
  pub depot : layer.depot.0 < p.stops
  pub fleet : layer.fleet ≤ MAX_FLEET
  pub fixed : layer.fixed ≤ MAX_FIXED
  pub per_minute : layer.per_minute ≤ MAX_PER_MINUTE
  pub per_metre : layer.per_metre ≤ MAX_PER_METRE
  pub stay : IfSome layer.stay IsStay

-- a trip within the limits, which ends later than it starts and is permitted in some layer
pub record IsTrip (p : Problem) (trip : Trip) : Type 0 where
  pub from : trip.from.0 < p.stops
  pub to : trip.to.0 < p.stops
  pub end : trip.end < TWO_DAYS
  pub lasts : trip.start < trip.end
  pub metres : trip.metres ≤ MAX_METRES
  pub some_layer : members trip.layers ≢ []
  pub layers : (l : ℕ) → Has trip.layers l → l < length p.layers

-- a deadhead from stop k to another stop s, within the limits
pub record IsDeadhead (p : Problem) (k s : ℕ) (w : Way) : Type 0 where
  pub from : k < p.stops
  pub to : s < p.stops
  pub apart : k ≢ s
  pub some_minutes : 1 ≤ w.minutes
  pub minutes : w.minutes ≤ MAX_MINUTES
  pub metres : w.metres ≤ MAX_METRES

-- the way w is no longer than a and b together, in minutes and in metres
pub record IsNoLonger (a b w : Way) : Type 0 where
  pub minutes : w.minutes ≤ a.minutes + b.minutes
  pub metres : w.metres ≤ a.metres + b.metres

-- where deadheads lead from k to s and from s on to t, one leads from k to t that is no longer than both
abbrev pub IsClosed : Problem → Type 0
IsClosed p = (k s t : ℕ) (a b : Way) → k ≢ t → map.get p.deadheads (k, s) ≡ Some a → map.get p.deadheads (s, t) ≡ Some b
    → IsSomeAnd (map.get p.deadheads (k, t)) (IsNoLonger a b)

-- so many pieces of the layer, each as dear as the dearest, don't cost too much
abbrev pub IsPayable : ℕ → Layer → Type 0
IsPayable trips layer = trips * dearest layer ≤ MAX_DEAREST_SUM

pub record IsInstance (p : Problem) : Type 0 where
  pub few_stops : p.stops ≤ MAX_STOPS
  pub few_layers : length p.layers ≤ MAX_LAYERS
  pub few_trips : length p.trips ≤ MAX_TRIPS
  pub layers : All (IsLayer p) p.layers
  pub payable : All (IsPayable (length p.trips)) p.layers
  pub deadheads : (k s : ℕ) → IfSome (map.get p.deadheads (k, s)) (IsDeadhead p k s)
  pub trips : All (IsTrip p) p.trips
  pub closed : IsClosed p
