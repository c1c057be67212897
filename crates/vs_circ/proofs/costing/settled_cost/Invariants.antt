use Rattle.std.proofs.Common.{◌≡◌, ◌+◌, ◌*◌, ◌^◌, ◌+ℤ◌, pos}
use Rattle.vs_path.specs.Residual.{IsWithin}
use Rattle.vs_circ.specs.PricedFlows.{last_arc}
use Rattle.vs_circ.specs.shipping.Costing.{units_pay}
use Rattle.vs_circ.proofs.shipping.Costing.{paid_before}
use Rattle.vs_circ.proofs.costing.settled_cost.Given as goal

-- what the way back and the trips so far pay
abbrev pub invariant-loop-i : goal.invariant-loop-i
invariant-loop-i l = record {
  cost : l.cost
      ≡ units_pay l.net l.shipment.flow.units.items l.shipment.prices.items (last_arc l.net)
      +ℤ paid_before l.net l.shipment.flow.units.items l.shipment.prices.items l.i;
  within : IsWithin (pos (2 ^ 95 * (l.i + 1))) l.cost;
}
