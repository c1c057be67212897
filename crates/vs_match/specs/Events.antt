-- Where and when the trips of a layer depart and arrive, until when its vehicles rest in the depot, and the nodes
-- that stand for it.
use Rattle.std.specs.Prelude.{◌≡◌, ℕ, ◌+◌, ◌-◌, ◌<◌, ◌≤◌, ◌⊎◌, zero, suc, List, length, Option, Some, None, IsSome, option_map, option_and_then, Contains, AllPairs, slice_get}
use Rattle.vs_types.specs.declared.numbers.StopNo.{StopNo}
use Rattle.vs_instance.specs.declared.way.Way.{Way}
use Rattle.vs_instance.specs.Problem.{Problem}
use Rattle.vs_instance.specs.Ways.{Permitted, way, trip_of, layer_of}
use Rattle.vs_match.specs.declared.event.Event.{Event}
use Rattle.vs_match.specs.declared.event.Point.{Point}

-- where and when trip i departs, and where and when it arrives
abbrev pub departure : Problem → ℕ → Event
departure p i = record { minute = (trip_of p i).start; stop = (trip_of p i).from }

abbrev pub arrival : Problem → ℕ → Event
arrival p i = record { minute = (trip_of p i).end; stop = (trip_of p i).to }

-- i is a trip that layer l may run
abbrev pub MayRun : Problem → ℕ → ℕ → Type 0
MayRun p l i = (i < length p.trips) × Permitted p l i

-- a trip that layer l may run departs then and there, or arrives
abbrev pub DepartsAt : Problem → ℕ → Event → Type 0
DepartsAt p l e = (i : ℕ) × MayRun p l i × (departure p i ≡ e)

abbrev pub ArrivesAt : Problem → ℕ → Event → Type 0
ArrivesAt p l e = (i : ℕ) × MayRun p l i × (arrival p i ≡ e)

abbrev pub IsEvent : Problem → ℕ → Event → Type 0
IsEvent p l e = DepartsAt p l e ⊎ ArrivesAt p l e

-- by the way w a vehicle of layer l that rested in its depot gets to an event in time, leaving at minute 0 or later
pub record IsWayAfterRest (p : Problem) (l : ℕ) (e : Event) (w : Way) : Type 0 where
  pub rests : IsSome (layer_of p l).stay
  pub way_is : way p (layer_of p l).depot.0 e.stop.0 ≡ Some w
  pub in_time : w.minutes ≤ e.minute

-- it rests until this minute, so that it is there just in time
abbrev pub RestsUntil : Problem → ℕ → ℕ → Event → Type 0
RestsUntil p l minute e = (w : Way) × IsWayAfterRest p l e w × (minute ≡ e.minute - w.minutes)

-- the minutes of the depot line, along which vehicles of layer l rest: at each of them one may leave for a departure
abbrev pub IsLineMinute : Problem → ℕ → ℕ → Type 0
IsLineMinute p l minute = (e : Event) × DepartsAt p l e × RestsUntil p l minute e

-- an event as a point in space and time, and a minute of the depot line as one
abbrev pub point_of : Event → Point
point_of e = record { minute = e.minute; stop = Some e.stop }

abbrev pub line_point : ℕ → Point
line_point minute = record { minute = minute; stop = None }

-- the points of layer l: the events of its trips, and the minutes of its depot line
abbrev pub IsPointAt : Problem → ℕ → ℕ → Option StopNo → Type 0
IsPointAt p l minute None = IsLineMinute p l minute
IsPointAt p l minute (Some stop) = IsEvent p l (record { minute = minute; stop = stop })

abbrev pub IsPoint : Problem → ℕ → Point → Type 0
IsPoint p l x = IsPointAt p l x.minute x.stop

-- by the minute; at one minute the depot line comes first, and then the stops in their order
abbrev pub stop_rank : Option StopNo → ℕ
stop_rank None = 0
stop_rank (Some stop) = suc stop.0

abbrev pub IsBefore : Point → Point → Type 0
IsBefore a b = (a.minute < b.minute) ⊎ ((a.minute ≡ b.minute) × (stop_rank a.stop < stop_rank b.stop))

-- the points of layer l in order, each once: a departure and an arrival at the same stop and minute are one
pub record ArePoints (p : Problem) (l : ℕ) (points : List Point) : Type 0 where
  pub only : (x : Point) → Contains points x → IsPoint p l x
  pub every : (x : Point) → IsPoint p l x → Contains points x
  pub ordered : AllPairs IsBefore points

-- which point a node stands for: node 0 is the beginning of the depot, then come the points in order, and the last
-- node is the depot's end
abbrev pub point_at : List Point → ℕ → Option Point
point_at points zero = None
point_at points (suc k) = slice_get points k

abbrev pub HasPoint : List Point → ℕ → Point → Type 0
HasPoint points v x = point_at points v ≡ Some x

-- the node stands for this event, or for this minute of the depot line
abbrev pub HasPlace : List Point → ℕ → Event → Type 0
HasPlace points v e = HasPoint points v (point_of e)

abbrev pub HasLine : List Point → ℕ → ℕ → Type 0
HasLine points v minute = HasPoint points v (line_point minute)

abbrev pub last_node : List Point → ℕ
last_node points = length points + 1

-- the event of a point at a stop, and the minute of a point on the depot line
abbrev pub event_in : Point → Option Event
event_in x = option_map (λ stop. record { minute = x.minute; stop = stop }) x.stop

abbrev pub line_minute : ℕ → Option StopNo → Option ℕ
line_minute minute None = Some minute
line_minute minute (Some stop) = None

-- the event of a node, and its minute on the depot line
abbrev pub place_at : List Point → ℕ → Option Event
place_at points v = option_and_then event_in (point_at points v)

abbrev pub line_at : List Point → ℕ → Option ℕ
line_at points v = option_and_then (λ x. line_minute x.minute x.stop) (point_at points v)
