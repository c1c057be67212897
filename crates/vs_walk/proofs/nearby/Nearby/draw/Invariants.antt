use Rattle.std.proofs.Common.{◌<◌, length}
use Rattle.vs_walk.specs.Walkers.{AreVehiclesOf}
use Rattle.vs_walk.proofs.nearby.Nearby.draw.Given as goal

abbrev pub invariant-loop : goal.invariant-loop
invariant-loop l = record {
  vehicles : AreVehiclesOf (length l.instance.trips) l.self;
  known : l.known.0 < length l.instance.trips;
}
