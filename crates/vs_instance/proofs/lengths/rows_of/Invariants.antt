use Rattle.std.proofs.Common.{◌≡◌, ℕ, ◌<◌, length, slice_index_or, Vec, Global}
use Rattle.vs_instance.specs.deadheads.Lengths.{IsRow}
use Rattle.vs_instance.proofs.lengths.rows_of.Given as goal

-- the stops so far
abbrev pub invariant-loop-k : goal.invariant-loop-k
invariant-loop-k l = record {
  count : length l.rows.items ≡ l.k;
  each : (s : ℕ) (d : Vec ℕ Global) → s < l.k → IsRow l.measure l.ways s (slice_index_or l.rows.items s d).items;
}
