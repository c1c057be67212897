-- The matches between two stops.
use Rattle.std.specs.Prelude.{◌≡◌, ℕ, ◌+◌, ◌≤◌, List, Contains}
use Rattle.vs_instance.specs.declared.way.Way.{Way}
use Rattle.vs_instance.specs.Problem.{Problem}
use Rattle.vs_match.specs.declared.arc_kind.LayerArc.{LayerArc}
use Rattle.vs_match.specs.declared.matching.Matching.{Matching}
use Rattle.vs_match.specs.declared.matching.Matching.TheVariants.{First, Latest}
use Rattle.vs_match.specs.declared.stop_node.StopNode.{StopNode}
use Rattle.vs_match.specs.ArcsOf.{deadhead_of}

-- b is the first of the departures from this minute on
pub record IsFirstFrom (departures : List StopNode) (minute : ℕ) (b : StopNode) : Type 0 where
  pub departs : Contains departures b
  pub in_time : minute ≤ b.minute
  pub first : (c : StopNode) → Contains departures c → minute ≤ c.minute → b.minute ≤ c.minute

-- by latest first match no arrival after a may be in time for b as well
abbrev pub IsKept : Matching → List StopNode → Way → StopNode → StopNode → Type 0
IsKept First arrivals w a b = Unit {0}
IsKept Latest arrivals w a b = (c : StopNode) → Contains arrivals c → c.minute + w.minutes ≤ b.minute
    → c.minute ≤ a.minute

-- the deadhead from an arrival to its match
pub record IsMatched (p : Problem) (l : ℕ) (matching : Matching) (w : Way) (arrivals departures : List StopNode)
    (x : LayerArc) : Type 0 where
  pub since : StopNode
  pub until : StopNode
  pub arrives : Contains arrivals since
  pub first : IsFirstFrom departures (since.minute + w.minutes) until
  pub kept : IsKept matching arrivals w since until
  pub is : x ≡ deadhead_of p l w since until
