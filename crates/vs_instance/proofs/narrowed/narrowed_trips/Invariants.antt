use Rattle.std.proofs.Common.{◌≡◌, map}
use Rattle.std.specs.List.{range_with_len}
use Rattle.vs_instance.specs.Narrowed.{narrowed_trip}
use Rattle.vs_instance.proofs.narrowed.narrowed_trips.Given as goal

-- the trips so far
abbrev pub invariant-loop-i : goal.invariant-loop-i
invariant-loop-i l = l.narrow.items ≡ map (narrowed_trip l.trips l.sets) (range_with_len 0 l.i)
