use Rattle.std.proofs.Common.{◌+◌, ◌*◌, ◌≤◌, length}
use Rattle.vs_instance.specs.declared.limits.TheConstants.{MAX_STOPS, MAX_TRIPS}
use Rattle.vs_match.specs.Adds.{Adds}
use Rattle.vs_match.specs.Parts.{IsDeadheadFrom}
use Rattle.vs_match.proofs.events.Adding.{Upto}
use Rattle.vs_match.proofs.deadheads.push_deadheads.Given as goal

-- the deadheads from the stops so far
abbrev pub invariant-loop-stop : goal.invariant-loop-stop
invariant-loop-stop l = record {
  adds : Adds
      (Upto (IsDeadheadFrom l.instance l.fn.l.0 l.fn.matching l.nodes.points.items) l.stop) l.initial.arcs.items
      l.arcs.items;
  few : length l.arcs.items ≤ length l.initial.arcs.items + l.stop * (MAX_STOPS * MAX_TRIPS);
}
