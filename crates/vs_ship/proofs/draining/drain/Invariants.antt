use Rattle.std.proofs.Common.{◌≡◌, ◌%◌, ◌<◌, ◌≤ℤ◌, ℕ, pos}
use Rattle.vs_path.specs.Residual.{price_at}
use Rattle.vs_path.specs.Loads.{AreLoads}
use Rattle.vs_ship.specs.declared.draining.TheConstants.{STRIDE}
use Rattle.vs_ship.specs.Shipments.{Ships}
use Rattle.vs_ship.proofs.draining.drain.Given as goal

-- nothing is left at the nodes that lie a number of strides after the first ones so far
abbrev pub invariant-loop-first : goal.invariant-loop-first
invariant-loop-first l = record {
  ships : Ships l.net l.fn.shipment l.shipment;
  none_left : (v : ℕ) → v % STRIDE < l.first → price_at l.shipment.surplus.items v ≤ℤ pos 0;
  nodes : l.search.nodes ≡ l.fn.search.nodes;
  loads : AreLoads l.net l.shipment.flow.units.items l.loads;
}
