use Rattle.std.proofs.Common.{MatchOption}
use Rattle.vs_node.specs.SplitRule.{HasChoice, HoldsOfNone, MaySplit}
use Rattle.vs_node.proofs.splitting.first_candidate.Given as goal

-- a trip so far is found, if any has a choice
abbrev pub invariant-loop-i : goal.invariant-loop-i
invariant-loop-i l = MatchOption l.best (HoldsOfNone (HasChoice l.sets) l.i) (MaySplit l.sets l.i)
