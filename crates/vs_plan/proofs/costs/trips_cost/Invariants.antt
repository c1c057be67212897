use Rattle.std.proofs.Common.{◌≡◌, take, pos, ◌≤ℤ◌, ◌*ℤ◌}
use Rattle.std.specs.Prelude.{sum_by}
use Rattle.vs_connect.specs.declared.pieces.TheConstants.{MAX_PIECE}
use Rattle.vs_instance.specs.Pieces.{trip_piece}
use Rattle.vs_plan.proofs.costs.trips_cost.Given as goal

abbrev pub invariant-loop-i : goal.invariant-loop-i
invariant-loop-i l = record {
  value : l.cost ≡ pos (sum_by (λ i. trip_piece l.instance l.l.0 i.0) (take l.i-index l.trips));
  limit : l.cost ≤ℤ (MAX_PIECE *ℤ pos l.i-index);
}
