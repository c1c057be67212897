use Rattle.std.proofs.Common.{◌≡◌, ◌<◌, ◌≤◌, ℕ, length, get_or, pos}
use Rattle.vs_instance.specs.Dearest.{most_multiplier}
use Rattle.vs_instance.specs.Lagrangian.{multiplier_of}
use Rattle.vs_multi.specs.Steps.{moved}
use Rattle.vs_multi.proofs.steps.move_all.Given as goal

-- the multipliers so far have moved, and the others not yet
abbrev pub invariant-loop-i : goal.invariant-loop-i
invariant-loop-i l = record {
  each_trip : length l.multipliers ≡ length l.fn.multipliers;
  done : (j : ℕ) → j < l.i
      → multiplier_of l.multipliers j
      ≡ moved (pos (most_multiplier (length l.fn.multipliers))) (multiplier_of l.fn.multipliers j) l.step
      (get_or l.covers j 0);
  rest : (j : ℕ) → l.i ≤ j → multiplier_of l.multipliers j ≡ multiplier_of l.fn.multipliers j;
}
