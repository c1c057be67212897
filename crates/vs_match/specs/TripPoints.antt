-- The points that a trip gives a layer's net.
use Rattle.std.specs.Prelude.{◌≡◌, ◌⊎◌, ℕ}
use Rattle.vs_instance.specs.Problem.{Problem}
use Rattle.vs_match.specs.declared.event.Event.{Event}
use Rattle.vs_match.specs.declared.event.Point.{Point}
use Rattle.vs_match.specs.Events.{departure, arrival, MayRun, RestsUntil, point_of, line_point}

-- the minute of the depot line at which a vehicle leaves for an event
abbrev pub IsLineOf : Problem → ℕ → Event → Point → Type 0
IsLineOf p l e x = (minute : ℕ) × RestsUntil p l minute e × (line_point minute ≡ x)

-- a departure and that minute
abbrev pub IsOfDeparture : Problem → ℕ → Event → Point → Type 0
IsOfDeparture p l e x = (point_of e ≡ x) ⊎ IsLineOf p l e x

-- the points of trip i, where layer l may run it
abbrev pub OfTrip : Problem → ℕ → ℕ → Point → Type 0
OfTrip p l i x =
    MayRun p l i × (IsOfDeparture p l (departure p i) x ⊎ (point_of (arrival p i) ≡ x))
