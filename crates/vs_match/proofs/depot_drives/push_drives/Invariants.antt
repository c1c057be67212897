use Rattle.std.proofs.Common.{◌+◌, ◌*◌, ◌≤◌, length}
use Rattle.vs_instance.specs.declared.limits.TheConstants.{MAX_TRIPS}
use Rattle.vs_match.specs.Adds.{Adds}
use Rattle.vs_match.proofs.events.Adding.{Upto}
use Rattle.vs_match.proofs.matches.DepotDrives.{OfKind}
use Rattle.vs_match.proofs.depot_drives.push_drives.Given as goal

-- the drives of the kinds so far
abbrev pub invariant-loop-drive : goal.invariant-loop-drive
invariant-loop-drive l = record {
  adds : Adds (Upto (OfKind l.instance l.l.0 l.nodes.points.items) l.drive-index) l.initial.arcs.items l.arcs.items;
  few : length l.arcs.items ≤ length l.initial.arcs.items + l.drive-index * MAX_TRIPS;
}
