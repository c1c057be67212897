use Rattle.std.proofs.Common.{◌≡◌, take}
use Rattle.vs_plan.specs.Blocks.{pairs_of}
use Rattle.vs_peakcheck.proofs.checking.plan_of.Given as goal

-- the blocks so far
abbrev pub invariant-loop-k : goal.invariant-loop-k
invariant-loop-k l = pairs_of l.copies.items ≡ pairs_of (take l.k l.blocks)
