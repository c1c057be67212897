use Rattle.std.proofs.Common.{◌≡◌, ◌≢◌, ℕ, ◌<◌, [], length}
use Rattle.vs_types.specs.LayerSet.{Has, members}
use Rattle.vs_instance.specs.Restriction.{set_of}
use Rattle.vs_instance.specs.Ways.{Permitted}
use Rattle.vs_walk.proofs.nearby.Nearby.free.Given as goal

-- the trips so far have layers, all of which are permitted
abbrev pub invariant-loop-i : goal.invariant-loop-i
invariant-loop-i l = record {
  size : length l.sets ≡ length l.instance.trips;
  some : (j : ℕ) → j < l.i → members (set_of l.sets j) ≢ [];
  permitted : (j k : ℕ) → j < l.i → Has (set_of l.sets j) k → Permitted l.instance k j;
}
