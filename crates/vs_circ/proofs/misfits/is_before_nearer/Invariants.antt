use Rattle.std.proofs.Common.{◌≤◌}
use Rattle.std.specs.Int.RustNames.{unsigned_abs}
use Rattle.vs_circ.proofs.misfits.is_before_nearer.Given as goal

-- each trip so far counts once at most
abbrev pub invariant-loop-i : goal.invariant-loop-i
invariant-loop-i l = unsigned_abs l.fewer ≤ l.i
