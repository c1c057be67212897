use Rattle.std.proofs.Common.{arith}
use Rattle.vs_messages.specs.Reasons.{fleet_for}
use Rattle.vs_messages.proofs.Counting.{sum_more}
use Rattle.vs_messages.proofs.ray.vehicles_for.Goals as goal

pub loop-l-preserved : goal.loop-l-preserved
loop-l-preserved c = record {
  value = sum_more (fleet_for c.args.instance.now c.args.trips.now) c.loop-l.l c.loop-l.vehicles
      c.fleet_for-vehicles.result c.loop-l.invariant.value c.fleet_for-vehicles.ensures.value;
  few = omega (arith, c.loop-l.invariant.few, c.fleet_for-vehicles.ensures.few);
}
