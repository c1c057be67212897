use Rattle.std.proofs.Common.{◌≡◌, drop}
use Rattle.vs_instance.specs.Firsts.{first}
use Rattle.vs_instance.proofs.CallerLemmas.{first_from}
use Rattle.vs_plan.specs.Blocks.{pairs_of}
use Rattle.vs_plan.specs.PlanFaults.{block_faults, blocks_faults}
use Rattle.vs_plan.proofs.judging.blocks_fault.Given as goal

-- the blocks from here on have the first fault of all
abbrev pub invariant-loop-b : goal.invariant-loop-b
invariant-loop-b l =
    first_from (block_faults l.instance) l.b (drop l.b (pairs_of l.blocks))
    ≡ first (blocks_faults l.instance (pairs_of l.blocks))
