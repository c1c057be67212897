use Rattle.std.proofs.Common.{◌≡◌, ◌*◌, map, pos, neg_ℤ, ◌≤ℤ◌}
use Rattle.std.specs.List.{range_with_len}
use Rattle.vs_instance.specs.Lagrangian.{total}
use Rattle.vs_prices.specs.Worth.{least_price}
use Rattle.vs_prices.proofs.table_worth.trips_pay.Given as goal

-- the trips below this one are paid for
abbrev pub invariant-loop-i : goal.invariant-loop-i
invariant-loop-i l = record {
  value : l.paid ≡ total (map (least_price l.instance l.sets l.table) (range_with_len 0 l.i));
  low : neg_ℤ (pos (3000000000000000000 * l.i)) ≤ℤ l.paid;
  high : l.paid ≤ℤ pos (3000000000000000000 * l.i);
}
