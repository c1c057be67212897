use Rattle.std.proofs.Common.{◌≡◌, ◌-◌, ◌%◌, ◌<◌, ◌≤ℤ◌, ℕ, pos}
use Rattle.vs_path.specs.Residual.{price_at}
use Rattle.vs_path.specs.Loads.{AreLoads}
use Rattle.vs_ship.specs.declared.draining.TheConstants.{STRIDE}
use Rattle.vs_ship.specs.Shipments.{Ships}
use Rattle.vs_ship.proofs.draining.drain_from.Given as goal

-- nothing is left at the nodes so far
abbrev pub invariant-loop-node : goal.invariant-loop-node
invariant-loop-node l = record {
  ships : Ships l.net l.fn.shipment l.shipment;
  place : l.node % STRIDE ≡ l.first;
  none_left : (v : ℕ) → v < l.node → v % STRIDE ≡ l.first → price_at l.shipment.surplus.items v ≤ℤ pos 0;
  nodes : l.search.nodes ≡ l.fn.search.nodes;
  loads : AreLoads l.net l.shipment.flow.units.items l.loads;
}

abbrev pub decreases-loop-node : goal.decreases-loop-node
decreases-loop-node l = l.net.nodes - l.node
