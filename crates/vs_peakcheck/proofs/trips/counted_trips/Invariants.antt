use Rattle.std.proofs.Common.{◌≡◌, map, take}
use Rattle.vs_instance.specs.Ways.{trip_of}
use Rattle.vs_peakcheck.specs.Counting.{counted_trip}
use Rattle.vs_peakcheck.proofs.trips.counted_trips.Given as goal

-- the trips so far
abbrev pub invariant-loop-k : goal.invariant-loop-k
invariant-loop-k l = l.counted.items ≡ map (λ i. counted_trip (trip_of l.instance i.0)) (take l.k l.trips)
