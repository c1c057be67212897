use Rattle.std.proofs.Common.{◌≡◌, vec_len}
use Rattle.vs_cuts.proofs.cut.mix.Given as goal

abbrev pub invariant-loop-i : goal.invariant-loop-i
invariant-loop-i l = vec_len l.shares.each ≡ vec_len l.fn.shares.each
