use Rattle.std.proofs.Common.{ℕ, ◌<◌, pos, get_or}
use Rattle.vs_path.specs.Residual.{IsWithin}
use Rattle.test_engine.proofs.paths.all_within.Given as goal

abbrev pub invariant-loop-number : goal.invariant-loop-number
invariant-loop-number l = (i : ℕ) → i < l.number-index → IsWithin l.bound (get_or l.numbers i (pos 0))
