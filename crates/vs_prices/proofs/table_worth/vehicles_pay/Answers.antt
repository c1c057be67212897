use Rattle.std.proofs.Common.{◌<◌, ◌≤◌, length, arith, sym, ap, ◌∙◌, subst}
use Rattle.vs_instance.specs.Ways.{no_layer}
use Rattle.vs_instance.specs.declared.layer.Layer.{Layer}
use Rattle.vs_instance.specs.declared.limits.TheConstants.{MAX_FLEET}
use Rattle.vs_instance.proofs.CallerLemmas.{total-range_next}
use Rattle.vs_prices.specs.Worth.{fleet_price}
use Rattle.vs_prices.proofs.RunningTotals.{product_added, same_sum, same_product}
use Rattle.vs_prices.proofs.table_worth.vehicles_pay.Goals as goal

pub overflow_add-paid : goal.overflow_add-paid
overflow_add-paid c =
    let inv = c.loop-l.invariant in
    let inside : c.loop-l.l < length c.args.instance.now.layers = omega (arith, c.layers-l-end.ensures.count) in
    let few =
    subst (λ (x : Layer). x.fleet ≤ MAX_FLEET) (sym c.layer.ensures)
    (c.layers-l-end.ensures.instance.layers c.loop-l.l no_layer inside).fleet in
    (product_added c.loop-l.paid-bits c.loop-l.l c.layer.result.now.fleet c.from.result c.from-in-loop-l.result
    c.vehicle_price.result c.from.ensures c.from-in-loop-l.ensures c.vehicle_price.ensures.price
    few (omega (arith, c.layers-l-end.ensures.count, c.layers-l-end.ensures.instance.few_layers)) inv.low inv.high).0

pub loop-l-preserved : goal.loop-l-preserved
loop-l-preserved c =
    let inv = c.loop-l.invariant in
    let inside : c.loop-l.l < length c.args.instance.now.layers = omega (arith, c.layers-l-end.ensures.count) in
    let few =
    subst (λ (x : Layer). x.fleet ≤ MAX_FLEET) (sym c.layer.ensures)
    (c.layers-l-end.ensures.instance.layers c.loop-l.l no_layer inside).fleet in
    let added =
    (product_added c.loop-l.paid-bits c.loop-l.l c.layer.result.now.fleet c.from.result c.from-in-loop-l.result
    c.vehicle_price.result c.from.ensures c.from-in-loop-l.ensures c.vehicle_price.ensures.price
    few (omega (arith, c.layers-l-end.ensures.count, c.layers-l-end.ensures.instance.few_layers)) inv.low inv.high).1 in
    record {
      value = added.value
          ∙ (same_sum _ _ _ _ inv.value
          (same_product _ _ _ _ c.vehicle_price.ensures.value (ap (λ (x : Layer). x.fleet) c.layer.ensures))
          ∙ sym (total-range_next (fleet_price c.args.instance.now c.args.table.now) c.loop-l.l));
      low = added.low;
      high = added.high;
    }
