use Rattle.std.proofs.Common.{◌≡◌, ℕ, ◌<◌, length, slice_index}
use Rattle.vs_instance.specs.deadheads.Lengths.{length_of}
use Rattle.vs_instance.proofs.lengths.row_of.Given as goal

-- the stops so far
abbrev pub invariant-loop-s : goal.invariant-loop-s
invariant-loop-s l = record {
  count : length l.row.items ≡ l.s;
  each : (t : ℕ) → t < l.s → slice_index l.row.items t ≡ length_of l.measure l.ways l.k.0 t;
}
