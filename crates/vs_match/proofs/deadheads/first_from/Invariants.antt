use Rattle.std.proofs.Common.{◌<◌, ◌≤◌, ◌-◌, length, take}
use Rattle.std.specs.List.{All}
use Rattle.vs_match.specs.declared.stop_node.StopNode.{StopNode}
use Rattle.vs_match.proofs.deadheads.first_from.Given as goal

-- the departures before this place are too early
abbrev pub invariant-loop-place : goal.invariant-loop-place
invariant-loop-place l = record {
  from : l.from ≤ l.place;
  within : l.place ≤ length l.departures;
  earlier : All (λ (s : StopNode). s.minute < l.minute) (take l.place l.departures);
}

abbrev pub decreases-loop-place : goal.decreases-loop-place
decreases-loop-place l = length l.departures - l.place
