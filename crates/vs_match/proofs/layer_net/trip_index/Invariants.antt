use Rattle.std.proofs.Common.{◌≡◌, length}
use Rattle.vs_match.proofs.matches.TripIndexes.{IsIndexUpto}
use Rattle.vs_match.proofs.layer_net.trip_index.Given as goal

-- the arcs so far are in the index
abbrev pub invariant-loop-k : goal.invariant-loop-k
invariant-loop-k l = record {
  trips : length l.index.items ≡ l.fn.trips;
  index : IsIndexUpto l.kinds l.k l.index.items;
}
