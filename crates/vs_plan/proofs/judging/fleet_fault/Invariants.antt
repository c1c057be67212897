use Rattle.std.proofs.Common.{◌≡◌, length}
use Rattle.vs_instance.specs.Firsts.{first}
use Rattle.vs_instance.proofs.CallerLemmas.{first_below}
use Rattle.vs_plan.specs.Blocks.{pairs_of}
use Rattle.vs_plan.specs.PlanFaults.{fleet_faults, layer_faults}
use Rattle.vs_plan.proofs.judging.fleet_fault.Given as goal

-- the layers from here on have the first fault of all
abbrev pub invariant-loop-l : goal.invariant-loop-l
invariant-loop-l l =
    first_below (layer_faults l.instance (pairs_of l.blocks)) l.l (length l.instance.layers)
    ≡ first (fleet_faults l.instance (pairs_of l.blocks))
