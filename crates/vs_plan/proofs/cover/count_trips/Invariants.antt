use Rattle.std.proofs.Common.{◌≡◌, ◌+◌, ◌<◌, ◌==◌, ℕ, length, slice_index, take, count_by}
use Rattle.vs_plan.proofs.cover.count_trips.Given as goal

abbrev pub invariant-loop-i : goal.invariant-loop-i
invariant-loop-i l = record {
  size : length l.counts ≡ length l.fn.counts;
  counted : (k : ℕ) → k < length l.fn.counts
      → slice_index l.counts k ≡ slice_index l.fn.counts k + count_by (λ t. t.0 == k) (take l.i-index l.trips);
}
