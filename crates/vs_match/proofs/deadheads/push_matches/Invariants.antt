use Rattle.std.proofs.Common.{◌+◌, ◌≤◌, length}
use Rattle.vs_match.specs.Adds.{Adds}
use Rattle.vs_match.proofs.events.Adding.{Upto}
use Rattle.vs_match.proofs.matches.Sweeping.{OfArrival, AreEarly}
use Rattle.vs_match.proofs.deadheads.push_matches.Given as goal

-- the matches of the arrivals so far; the departures before the place are too early for all later arrivals
abbrev pub invariant-loop-k : goal.invariant-loop-k
invariant-loop-k l = record {
  adds : Adds
      (Upto (OfArrival l.instance l.by.l.0 l.by.matching l.way l.arrivals l.departures) l.k) l.initial.arcs.items
      l.arcs.items;
  few : length l.arcs.items ≤ length l.initial.arcs.items + l.k;
  within : l.first ≤ length l.departures;
  early : AreEarly l.way l.arrivals l.departures l.k l.first;
}
