use Rattle.std.proofs.Common.{IfSome}
use Rattle.vs_node.specs.SplitRule.{MaySplit}
use Rattle.vs_node.proofs.splitting.next_candidate.Given as goal

-- a trip so far is found, if any
abbrev pub invariant-loop-i : goal.invariant-loop-i
invariant-loop-i l = IfSome l.best (MaySplit l.sets l.i)
