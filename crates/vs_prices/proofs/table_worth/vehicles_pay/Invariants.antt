use Rattle.std.proofs.Common.{◌≡◌, ◌*◌, map, pos, neg_ℤ, ◌≤ℤ◌}
use Rattle.std.specs.List.{range_with_len}
use Rattle.vs_instance.specs.Lagrangian.{total}
use Rattle.vs_prices.specs.Worth.{fleet_price}
use Rattle.vs_prices.proofs.table_worth.vehicles_pay.Given as goal

-- the vehicles of the layers below this one are paid for
abbrev pub invariant-loop-l : goal.invariant-loop-l
invariant-loop-l l = record {
  value : l.paid ≡ total (map (fleet_price l.instance l.table) (range_with_len 0 l.l));
  low : neg_ℤ (pos (10000000000000000000000 * l.l)) ≤ℤ l.paid;
  high : l.paid ≤ℤ pos (10000000000000000000000 * l.l);
}
