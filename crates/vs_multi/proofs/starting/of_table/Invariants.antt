use Rattle.std.proofs.Common.{◌≡◌, ℕ, ◌<◌, length}
use Rattle.vs_instance.specs.Lagrangian.{multiplier_of}
use Rattle.vs_prices.specs.Worth.{least_price}
use Rattle.vs_multi.specs.Multipliers.{limited, greatest_paid}
use Rattle.vs_multi.proofs.starting.of_table.Given as goal

-- the trips below this one have their multipliers
abbrev pub invariant-loop-i : goal.invariant-loop-i
invariant-loop-i l = record {
  size : length l.multipliers ≡ length l.instance.trips;
  done : (j : ℕ) → j < l.i
      → multiplier_of l.multipliers j ≡ limited (greatest_paid l.instance) (least_price l.instance l.sets l.table j);
}
