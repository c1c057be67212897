use Rattle.std.proofs.Common.{◌≡◌, map, take}
use Rattle.vs_plan.proofs.Orders.{trip_at, AreStarts}
use Rattle.vs_plan.proofs.order.trips_in_order.Given as goal

abbrev pub invariant-trips : goal.invariant-trips
invariant-trips l = AreStarts l.instance l.i l.starts.items

abbrev pub invariant-sorted : goal.invariant-sorted
invariant-sorted l = l.order.items ≡ map trip_at (take l.i-index l.i-items)
