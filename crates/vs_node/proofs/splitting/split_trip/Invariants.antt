use Rattle.std.proofs.Common.{length}
use Rattle.vs_node.specs.SplitRule.{MaySplit}
use Rattle.vs_node.proofs.splitting.split_trip.Given as goal

-- the best one so far may split the leaf
abbrev pub invariant-loop : goal.invariant-loop
invariant-loop l = MaySplit l.sets (length l.sets) l.best
