use Rattle.std.proofs.Common.{◌≡◌, ◌<◌, ℕ, length, slice_index, take}
use Rattle.vs_instance.specs.Plan.{times_run}
use Rattle.vs_plan.specs.Blocks.{pairs_of}
use Rattle.vs_plan.proofs.cover.times_run.Given as goal

abbrev pub invariant-loop-block : goal.invariant-loop-block
invariant-loop-block l = record {
  size : length l.times.items ≡ length l.instance.trips;
  counted : (k : ℕ) → k < length l.instance.trips
      → slice_index l.times.items k ≡ times_run (take l.block-index (pairs_of l.blocks)) k;
}
