use Rattle.std.proofs.Common.{◌≡◌, nat_abs}
use Rattle.vs_path.specs.Residual.{price_at}
use Rattle.vs_path.specs.Loads.{AreLoads}
use Rattle.vs_ship.specs.Shipments.{Ships}
use Rattle.vs_ship.proofs.draining.drain_node.Given as goal

-- units were sent
abbrev pub invariant-loop-search : goal.invariant-loop-search
invariant-loop-search l = record {
  ships : Ships l.net l.fn.shipment l.shipment;
  nodes : l.search.nodes ≡ l.fn.search.nodes;
  loads : AreLoads l.net l.shipment.flow.units.items l.loads;
}

abbrev pub decreases-loop-search : goal.decreases-loop-search
decreases-loop-search l = nat_abs (price_at l.shipment.surplus.items l.source)
