use Rattle.std.proofs.Common.{◌≡◌, ◌*◌, length, take, pos, ◌≤ℤ◌}
use Rattle.vs_instance.specs.Plan.{all_trips, plan_cost}
use Rattle.vs_plan.specs.Blocks.{pairs_of}
use Rattle.vs_plan.specs.declared.costs.TheConstants.{MAX_COST_PER_TRIP}
use Rattle.vs_plan.proofs.costs.blocks_cost.Given as goal

-- the blocks so far
abbrev pub invariant-loop-block : goal.invariant-loop-block
invariant-loop-block l = record {
  value : l.cost ≡ pos (plan_cost l.instance (take l.block-index (pairs_of l.blocks)));
  limit : l.cost ≤ℤ pos (MAX_COST_PER_TRIP * length (all_trips (take l.block-index (pairs_of l.blocks))));
}
