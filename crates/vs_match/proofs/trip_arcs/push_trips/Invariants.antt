use Rattle.std.proofs.Common.{◌+◌, ◌≤◌, length}
use Rattle.vs_match.specs.Adds.{Adds}
use Rattle.vs_match.proofs.events.Adding.{Upto}
use Rattle.vs_match.proofs.matches.TripsRun.{OfTripNo}
use Rattle.vs_match.proofs.trip_arcs.push_trips.Given as goal

-- the trips so far
abbrev pub invariant-loop-i : goal.invariant-loop-i
invariant-loop-i l = record {
  adds : Adds (Upto (OfTripNo l.instance l.l.0 l.nodes.points.items) l.i) l.initial.arcs.items l.arcs.items;
  few : length l.arcs.items ≤ length l.initial.arcs.items + l.i;
}
