use Rattle.std.proofs.Common.{◌+◌, ◌*◌, ◌≤◌, length}
use Rattle.vs_instance.specs.declared.limits.TheConstants.{MAX_TRIPS}
use Rattle.vs_match.specs.Adds.{Adds}
use Rattle.vs_match.specs.Parts.{IsDeadheadTo}
use Rattle.vs_match.proofs.events.Adding.{Upto}
use Rattle.vs_match.proofs.deadheads.push_from.Given as goal

-- the deadheads to the stops so far
abbrev pub invariant-loop-to : goal.invariant-loop-to
invariant-loop-to l = record {
  adds : Adds
      (Upto (IsDeadheadTo l.instance l.by.l.0 l.by.matching l.nodes.points.items l.from.0) l.to) l.initial.arcs.items
      l.arcs.items;
  few : length l.arcs.items ≤ length l.initial.arcs.items + l.to * MAX_TRIPS;
}
