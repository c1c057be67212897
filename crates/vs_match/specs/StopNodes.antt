-- Nodes that stand for events, by their stops.
use Rattle.std.specs.Prelude.{◌≡◌, ℕ, ◌<◌, ◌⊎◌, ◌↔◌, List, [], length, slice_index_or, Contains, AllPairs}
use Rattle.vs_types.specs.declared.numbers.StopNo.{StopNo}
use Rattle.vs_match.specs.declared.event.Event.{Event}
use Rattle.vs_match.specs.declared.event.Point.{Point}
use Rattle.vs_match.specs.declared.stop_node.StopNode.{StopNode}
use Rattle.vs_match.specs.Events.{HasPlace, HasLine}

-- the event of a node
abbrev pub event_of : StopNode → Event
event_of s = record { minute = s.minute; stop = s.stop }

-- by the stop, then by the minute
abbrev pub IsStopNodeBefore : StopNode → StopNode → Type 0
IsStopNodeBefore a b = (a.stop.0 < b.stop.0) ⊎ ((a.stop.0 ≡ b.stop.0) × (a.minute < b.minute))

abbrev pub IsRising : List StopNode → Type 0
IsRising stop_nodes = AllPairs (λ a b. a.minute < b.minute) stop_nodes

-- the nodes of such events, by their stops, each once
pub record AreStopNodes (points : List Point) (Such : Event → Type 0) (stop_nodes : List StopNode) : Type 0 where
  pub only : (s : StopNode) → Contains stop_nodes s → HasPlace points s.node (event_of s) × Such (event_of s)
  pub every : (s : StopNode) → HasPlace points s.node (event_of s) → Such (event_of s) → Contains stop_nodes s
  pub ordered : AllPairs IsStopNodeBefore stop_nodes

-- the nodes of the depot line, which are at the depot's stop, by their minutes, each once
pub record AreLineNodes (points : List Point) (depot : StopNo) (line : List StopNode) : Type 0 where
  pub only : (s : StopNode) → Contains line s → HasLine points s.node s.minute × (s.stop ≡ depot)
  pub every : (s : StopNode) → HasLine points s.node s.minute → s.stop ≡ depot → Contains line s
  pub rising : IsRising line

-- the nodes at each of so many stops
pub record AreByStop (stops : ℕ) (stop_nodes : List StopNode) (groups : List (List StopNode)) : Type 0 where
  pub count : length groups ≡ stops
  pub same : (k : ℕ) → k < stops → (s : StopNode)
      → Contains (slice_index_or groups k []) s ↔ (Contains stop_nodes s × (s.stop ≡ record { 0 = k }))
  pub rising : (k : ℕ) → k < stops → IsRising (slice_index_or groups k [])
