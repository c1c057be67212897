use Rattle.std.proofs.Common.{◌+◌, ◌≤◌, length}
use Rattle.vs_match.specs.Adds.{Adds}
use Rattle.vs_match.proofs.events.Adding.{Upto}
use Rattle.vs_match.proofs.matches.DepotDrives.{OfTripNode}
use Rattle.vs_match.proofs.depot_drives.push_drives_of.Given as goal

-- the drives to or from the nodes so far
abbrev pub invariant-loop-at : goal.invariant-loop-at
invariant-loop-at l = record {
  adds : Adds (Upto (OfTripNode l.drive l.instance l.l.0 l.nodes l.at-items) l.at-index) l.initial.arcs.items
      l.arcs.items;
  few : length l.arcs.items ≤ length l.initial.arcs.items + l.at-index;
}
