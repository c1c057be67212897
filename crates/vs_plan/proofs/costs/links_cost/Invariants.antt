use Rattle.std.proofs.Common.{◌≡◌, ◌-◌, pos, ◌+ℤ◌, ◌≤ℤ◌, ◌*ℤ◌}
use Rattle.std.specs.Prelude.{sum_by}
use Rattle.vs_connect.specs.declared.pieces.TheConstants.{MAX_PIECE}
use Rattle.vs_instance.specs.BlockPieces.{cost_of, links_between}
use Rattle.vs_plan.proofs.BlockCosts.{links_from}
use Rattle.vs_plan.proofs.costs.links_cost.Given as goal

-- the links so far, and those from the trip before this place on, are all
abbrev pub invariant-loop-place : goal.invariant-loop-place
invariant-loop-place l = record {
  value : l.cost +ℤ pos (links_from l.instance l.l l.trips (l.place - 1))
      ≡ pos (sum_by cost_of (links_between l.instance l.l l.trips));
  low : pos 0 ≤ℤ l.cost;
  limit : l.cost ≤ℤ (MAX_PIECE *ℤ pos (l.place - 1));
}
