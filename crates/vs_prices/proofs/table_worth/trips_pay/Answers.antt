use Rattle.std.proofs.Common.{arith, sym, ◌∙◌}
use Rattle.vs_instance.proofs.CallerLemmas.{total-range_next}
use Rattle.vs_prices.specs.Worth.{least_price}
use Rattle.vs_prices.proofs.RunningTotals.{trip_added, same_sum}
use Rattle.vs_prices.proofs.table_worth.trips_pay.Goals as goal

pub loop-i-preserved : goal.loop-i-preserved
loop-i-preserved c =
    let p = c.args.instance.now in
    let inv = c.loop-i.invariant in
    let added =
    trip_added c.loop-i.paid-bits c.loop-i.i c.from-paid.result c.least_price.result c.from-paid.ensures
    c.least_price.ensures.low c.least_price.ensures.high
    (omega (arith, c.trips-i-end.ensures.count, c.trips-i-end.ensures.instance.few_trips)) inv.low inv.high in
    record {
      value = added.value
          ∙ (same_sum _ _ _ _ inv.value c.least_price.ensures.value
          ∙ sym (total-range_next (least_price p c.args.sets.now c.args.table.now) c.loop-i.i));
      low = added.low;
      high = added.high;
    }
