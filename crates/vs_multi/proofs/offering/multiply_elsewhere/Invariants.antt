use Rattle.std.proofs.Common.{◌≡◌, ◌<◌, ℕ, length}
use Rattle.vs_instance.specs.Lagrangian.{multiplier_of}
use Rattle.vs_instance.specs.Restriction.{set_of}
use Rattle.vs_multi.specs.Multipliers.{IsMultiplier}
use Rattle.vs_multi.specs.Offers.{IsLeastElsewhere}
use Rattle.vs_multi.proofs.offering.multiply_elsewhere.Given as goal

-- the trips below this one have their multipliers
abbrev pub invariant-loop-i : goal.invariant-loop-i
invariant-loop-i l = record {
  size : length l.multipliers ≡ length l.instance.trips;
  done : (j : ℕ) → j < l.i
      → IsLeastElsewhere l.instance (set_of l.sets j) l.table l.l.0 j (multiplier_of l.multipliers j)
      × IsMultiplier (length l.instance.trips) (multiplier_of l.multipliers j);
}
