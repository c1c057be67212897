use Rattle.std.proofs.Common.{◌+◌, length, sym, subst}
use Rattle.std.specs.Prelude.{IfSome}
use Rattle.vs_multi.specs.Multipliers.{IsLeastOwnCost, MayCostAlone}
use Rattle.vs_multi.proofs.OwnBlocks.{cheapest_more, lesser_limits}
use Rattle.vs_multi.proofs.starting.least_own_cost.Goals as goal

pub loop-l-preserved : goal.loop-l-preserved
loop-l-preserved c =
    let inv = c.loop-l.invariant in
    let cost = c.own_cost-cost.ensures in
    record {
      value = subst (IsLeastOwnCost c.args.instance.now (c.loop-l.l + 1) c.args.i) (sym c.lesser-least.ensures)
          (cheapest_more c.args.instance.now c.loop-l.l c.args.i c.loop-l.least c.own_cost-cost.result inv.value
          cost.value);
      limits = subst (λ o. IfSome o (MayCostAlone (length c.args.instance.now.trips))) (sym c.lesser-least.ensures)
          (lesser_limits (length c.args.instance.now.trips) c.loop-l.least c.own_cost-cost.result inv.limits
          cost.limits);
    }
