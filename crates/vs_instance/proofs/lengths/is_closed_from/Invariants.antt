use Rattle.std.proofs.Common.{ℕ, ◌<◌, slice_index, slice_index_or, Vec, Global}
use Rattle.vs_instance.specs.deadheads.Lengths.{IsNowhereLonger}
use Rattle.vs_instance.proofs.lengths.is_closed_from.Given as goal

-- by no stop so far it is shorter
abbrev pub invariant-loop-s : goal.invariant-loop-s
invariant-loop-s l = (k : ℕ) (d : Vec ℕ Global) → k < l.s
    → IsNowhereLonger (slice_index l.direct k) (slice_index_or l.rows k d).items l.direct
