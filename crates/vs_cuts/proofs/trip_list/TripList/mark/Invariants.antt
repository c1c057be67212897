use Rattle.std.proofs.Common.{◌≡◌, ◌≤◌}
use Rattle.vs_cuts.proofs.trip_list.TripList.mark.Given as goal

abbrev pub invariant-loop-i : goal.invariant-loop-i
invariant-loop-i l = record {
  counted : l.self.count ≤ l.i;
  trips : l.self.set.trips ≡ l.fn.self.set.trips;
}
