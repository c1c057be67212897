use Rattle.std.proofs.Common.{◌≡◌, take}
use Rattle.vs_node.specs.LayersDone.{must_in}
use Rattle.vs_node.proofs.settling.mark.Given as goal

-- the trips so far are marked
abbrev pub invariant-loop-i : goal.invariant-loop-i
invariant-loop-i l = take l.i l.must ≡ take l.i (must_in l.sets l.l.0)
