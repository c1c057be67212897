use Rattle.std.proofs.Common.{◌≡◌, take}
use Rattle.vs_plan.specs.Blocks.{pairs_of}
use Rattle.vs_resume.proofs.part.copy_of_plan.Given as goal

-- the blocks before are copied
abbrev pub invariant-loop-block : goal.invariant-loop-block
invariant-loop-block l = pairs_of l.blocks.items ≡ pairs_of (take l.block-index l.plan.blocks.items)
