use Rattle.std.proofs.Common.{◌≡◌, ℕ, ◌<◌, length}
use Rattle.vs_types.specs.declared.numbers.TripNo.{TripNo}
use Rattle.vs_instance.specs.Lagrangian.{IsStart, multiplier_of}
use Rattle.vs_multi.specs.Multipliers.{IsMultiplier}
use Rattle.vs_multi.proofs.starting.start.Given as goal

-- the trips below this one have their multipliers
abbrev pub invariant-loop-i : goal.invariant-loop-i
invariant-loop-i l = record {
  size : length l.multipliers ≡ length l.instance.trips;
  within : (j : ℕ) → j < l.i → IsMultiplier (length l.instance.trips) (multiplier_of l.multipliers j);
  done : (j : TripNo) → j.0 < l.i → IsStart l.instance j (multiplier_of l.multipliers j.0);
}
