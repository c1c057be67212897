use Rattle.std.proofs.Common.{◌≡◌, ℕ, ◌<◌, ◌≤◌, length}
use Rattle.vs_instance.specs.Lagrangian.{multiplier_of}
use Rattle.vs_multi.specs.Multipliers.{AreWithin}
use Rattle.vs_penalty.specs.Means.{LiesBetween}
use Rattle.vs_penalty.proofs.mean.Mean.take.Given as goal

abbrev pub invariant-loop-i : goal.invariant-loop-i
invariant-loop-i l = record {
  each_trip : length l.self.multipliers.items ≡ length l.initial.self.multipliers.items;
  within : AreWithin l.self.multipliers.items;
  passes : l.self.passes ≡ l.initial.self.passes;
  taken : (k : ℕ) → k < l.i → LiesBetween (multiplier_of l.initial.self.multipliers.items k) (multiplier_of l.newest k)
      (multiplier_of l.self.multipliers.items k);
  whole : (k : ℕ) → k < l.i → l.self.passes ≡ 1
      → multiplier_of l.self.multipliers.items k ≡ multiplier_of l.newest k;
  left : (k : ℕ) → l.i ≤ k
      → multiplier_of l.self.multipliers.items k ≡ multiplier_of l.initial.self.multipliers.items k;
}
