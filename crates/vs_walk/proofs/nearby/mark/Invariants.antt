use Rattle.std.proofs.Common.{◌≡◌, length}
use Rattle.vs_walk.proofs.nearby.mark.Given as goal

abbrev pub invariant-loop-i : goal.invariant-loop-i
invariant-loop-i l = length l.drawn ≡ length l.initial.drawn
