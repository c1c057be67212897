use Rattle.std.proofs.Common.{[], ◌*◌, ◌≤◌, length}
use Rattle.vs_match.specs.Adds.{Adds}
use Rattle.vs_match.proofs.events.Adding.{Upto}
use Rattle.vs_match.specs.TripPoints.{OfTrip}
use Rattle.vs_match.proofs.nodes.points_of.Given as goal

-- the points of the trips so far
abbrev pub invariant-loop-i : goal.invariant-loop-i
invariant-loop-i l = record {
  adds : Adds (Upto (OfTrip l.instance l.l.0) l.i) [] l.points.items;
  few : length l.points.items ≤ 3 * l.i;
}
