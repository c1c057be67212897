-- Which departure at another stop an arrival leads to.
use Rattle.std.specs.Prelude.{◌≡◌, ◌≢◌, ℕ, ◌+◌, ◌≤◌, Some}
use Rattle.vs_instance.specs.declared.way.Way.{Way}
use Rattle.vs_instance.specs.Problem.{Problem}
use Rattle.vs_instance.specs.Ways.{way}
use Rattle.vs_match.specs.declared.event.Event.{Event}
use Rattle.vs_match.specs.declared.matching.Matching.{Matching}
use Rattle.vs_match.specs.declared.matching.Matching.TheVariants.{First, Latest}
use Rattle.vs_match.specs.Events.{ArrivesAt, DepartsAt}

-- first match: a is an arrival, and b is the first departure at b's stop that can be reached from it by the way w
pub record IsFirstMatch (p : Problem) (l : ℕ) (w : Way) (a b : Event) : Type 0 where
  pub arrives : ArrivesAt p l a
  pub departs : DepartsAt p l b
  pub apart : a.stop.0 ≢ b.stop.0
  pub way_is : way p a.stop.0 b.stop.0 ≡ Some w
  pub in_time : a.minute + w.minutes ≤ b.minute
  pub first : (c : Event) → DepartsAt p l c → c.stop ≡ b.stop → a.minute + w.minutes ≤ c.minute → b.minute ≤ c.minute

-- latest first match: of the arrivals at a's stop with this first match, a is the latest
pub record IsLatestFirstMatch (p : Problem) (l : ℕ) (w : Way) (a b : Event) : Type 0 where
  pub is_match : IsFirstMatch p l w a b
  pub latest : (c : Event) → c.stop ≡ a.stop → IsFirstMatch p l w c b → c.minute ≤ a.minute

abbrev pub IsMatch : Problem → ℕ → Matching → Way → Event → Event → Type 0
IsMatch p l First = IsFirstMatch p l
IsMatch p l Latest = IsLatestFirstMatch p l
