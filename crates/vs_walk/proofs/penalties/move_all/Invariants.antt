use Rattle.std.proofs.Common.{◌≡◌, ℕ, ◌<◌, ◌≤◌, length, pos}
use Rattle.vs_types.specs.LayerSet.{members}
use Rattle.vs_instance.specs.Dearest.{most_multiplier}
use Rattle.vs_instance.specs.Lagrangian.{multiplier_of}
use Rattle.vs_instance.specs.Restriction.{set_of}
use Rattle.vs_multi.specs.Multipliers.{AreWithin}
use Rattle.vs_multi.specs.Steps.{moved}
use Rattle.vs_walk.proofs.penalties.move_all.Given as goal

-- the multipliers so far have moved, and the others not yet
abbrev pub invariant-loop-i : goal.invariant-loop-i
invariant-loop-i l = record {
  within : AreWithin l.multipliers;
  each_trip : length l.multipliers ≡ length l.initial.multipliers;
  done : (j : ℕ) → j < l.i → multiplier_of l.multipliers j
      ≡ moved (pos (most_multiplier (length l.initial.multipliers))) (multiplier_of l.initial.multipliers j)
      l.rate (length (members (set_of l.runs j)));
  rest : (j : ℕ) → l.i ≤ j → multiplier_of l.multipliers j ≡ multiplier_of l.initial.multipliers j;
}
