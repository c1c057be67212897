-- The two events of a trip.
use Rattle.std.specs.Prelude.{ℕ}
use Rattle.vs_instance.specs.Problem.{Problem}
use Rattle.vs_match.specs.declared.event.Event.{Event}
use Rattle.vs_match.specs.declared.event.TripEnd.{TripEnd}
use Rattle.vs_match.specs.declared.event.TripEnd.TheVariants.{Departure, Arrival}
use Rattle.vs_match.specs.Events.{departure, arrival, DepartsAt, ArrivesAt}

abbrev pub event_at : TripEnd → Problem → ℕ → Event
event_at Departure p i = departure p i
event_at Arrival p i = arrival p i

-- a trip that layer l may run has this event
abbrev pub HappensAt : TripEnd → Problem → ℕ → Event → Type 0
HappensAt Departure p l = DepartsAt p l
HappensAt Arrival p l = ArrivesAt p l
