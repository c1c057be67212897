use Rattle.std.proofs.Common.{◌<◌, ap, arith, length, subst, sym}
use Rattle.vs_types.specs.declared.numbers.TripNo.{TripNo}
use Rattle.vs_walk.specs.Walkers.{AreVehiclesOf}
use Rattle.vs_walk.proofs.nearby.Nearby.draw.Goals as goal
use Rattle.vs_walk.proofs.nearby.Nearby.draw.Goals.{then-index, else-index+then-are_near, else-index+else-are_near}

pub loop-preserved : goal.loop-preserved
loop-preserved c =
    let Are = AreVehiclesOf (length c.args.instance.now.trips) in
    let old = c.loop.invariant in
    let number = λ (t : TripNo). t.0 in
    let next = c.below-in-loop.ensures in
    let count = c.trips-in-loop.ensures.count in
    elim c.if-index.branch [
      | then-index w ↦ record {
        vehicles = subst Are (sym w.self-is) old.vehicles;
        known = omega (arith, ap number w.known-is, next, count);
      }
      | else-index+then-are_near w ↦ record {
        vehicles = subst Are (sym w.self-is) (w.take-then-are_near.ensures _ old.vehicles);
        known = omega (arith, ap number w.known-is, old.known);
      }
      | else-index+else-are_near w ↦ record {
        vehicles = subst Are (sym w.self-is) old.vehicles;
        known = omega (arith, ap number w.known-is, old.known);
      }
    ]
