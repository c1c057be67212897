use Rattle.std.specs.Prelude.{IfSome, length}
use Rattle.vs_multi.specs.Multipliers.{IsLeastOwnCost, MayCostAlone}
use Rattle.vs_multi.proofs.starting.least_own_cost.Given as goal

-- the cheapest of the layers below this one
abbrev pub invariant-loop-l : goal.invariant-loop-l
invariant-loop-l l = record {
  value : IsLeastOwnCost l.instance l.l l.i l.least;
  limits : IfSome l.least (MayCostAlone (length l.instance.trips));
}
