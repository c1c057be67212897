use Rattle.std.proofs.Common.{◌≡◌, ℕ, ◌+◌, ◌<◌, ◌≤◌, false, slice_index}
use Rattle.vs_instance.proofs.lengths.is_nowhere_longer.Given as goal

-- where no stop so far was longer, each is no longer
abbrev pub invariant-loop-t : goal.invariant-loop-t
invariant-loop-t l = l.longer ≡ false
    → (s : ℕ) → s < l.t → slice_index l.direct s ≤ l.first + slice_index l.onward s
