use Rattle.std.proofs.Common.{◌≡◌, false}
use Rattle.vs_prices.specs.Bounds.{ReachesLagrangian}
use Rattle.vs_prices.specs.Table.{Fits, HoldingTable}
use Rattle.vs_prices.specs.Worth.{IsWorth}
use Rattle.vs_multi.specs.Multipliers.{AreMultipliers}
use Rattle.vs_multi.specs.Rounds.{IsRoundFor}
use Rattle.vs_multi.proofs.Leading.{HaveLed}
use Rattle.vs_multi.proofs.best.best_of.Given as goal

-- the best table so far, and the rounds that led here
abbrev pub invariant-loop-r : goal.invariant-loop-r
invariant-loop-r l = record {
  fits : Fits l.case.instance.now l.table;
  holds : HoldingTable l.case.instance.now l.table;
  costs : l.table.ray ≡ false;
  worth : IsWorth l.case.instance.now l.case.sets.now l.table l.greatest;
  lagrangian : ReachesLagrangian l.case.instance.now l.case.sets.now l.fn.multipliers l.table;
  round : IsRoundFor l.case.instance.now l.round;
  led : HaveLed l.case.instance.now l.case.nets.now l.case.sets.now l.steps l.most l.fn.multipliers l.r
      l.table l.round.covers.items l.multipliers;
  within : AreMultipliers l.case.instance.now l.multipliers;
}
