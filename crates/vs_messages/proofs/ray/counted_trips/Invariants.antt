use Rattle.std.proofs.Common.{◌≡◌, map}
use Rattle.std.specs.List.{filter, range_with_len}
use Rattle.vs_messages.specs.Reasons.{AreTripsOf, counts, numbered}
use Rattle.vs_messages.proofs.ray.counted_trips.Given as goal

-- of the trips below this one those are there that count more than 0
abbrev pub invariant-loop-i : goal.invariant-loop-i
invariant-loop-i l = record {
  counted : l.trips.items ≡ filter (counts l.instance l.table) (map numbered (range_with_len 0 l.i));
  trips : AreTripsOf l.instance l.trips.items;
}
