use Rattle.std.proofs.Common.{ℕ, ◌<◌, slice_index_or, Vec, Global}
use Rattle.vs_instance.specs.deadheads.Lengths.{IsClosedFrom}
use Rattle.vs_instance.proofs.lengths.is_closed.Given as goal

-- from no stop so far it is shorter by another
abbrev pub invariant-loop-direct : goal.invariant-loop-direct
invariant-loop-direct l = (k : ℕ) (d : Vec ℕ Global) → k < l.direct-index
    → IsClosedFrom l.rows (slice_index_or l.rows k d).items
