use Rattle.std.proofs.Common.{◌<◌, length, List, ◌++◌, map, arith, pos, ℤ, ap}
use Rattle.vs_rows.specs.DocumentRows.{permitted_trips}
use Rattle.vs_rows.specs.PriceOrder.{PriceOf, Trip}
use Rattle.vs_rows.specs.TableReading.{IsWrongAt}
use Rattle.vs_rows.proofs.tables.ErrorsPass.{err_passes}
use Rattle.vs_rows.proofs.tables.PriceReading.{prices_with, prices_without, prices_wrong, prices_end, is_permitted, not_permitted, pushed, zero_price}
use Rattle.vs_rows.proofs.reading.tables.read_prices.Goals as goal
use Rattle.vs_rows.proofs.reading.tables.read_prices.Goals.{then-may+in_ok-prices, else-may}

pub returns-in_err-prices-clause-refused : goal.returns-in_err-prices-clause-refused
returns-in_err-prices-clause-refused c =
    err_passes _ (λ e. (later : List PriceOf)
    → IsWrongAt c.args.input.now c.args.at
    (map (Trip c.args.l.0) (permitted_trips c.args.input.now.instance c.args.l.0) ++ later) e)
    c.from_residual.ensures.1
    (λ later. prices_wrong c.args.input.now c.args.at c.args.l.0 c.loop-i.i c.loop-i.next c.args.table.now
    c.loop-i.table c.loop-i.table c.loop-i.invariant (omega (arith, c.loop-i-test.true, c.trips-i-end.ensures.count))
    _ later
    (is_permitted c.args.input.now.instance c.args.l.0 c.loop-i.i c.trip.result.now c.has-may.result c.trip.ensures
    c.if-may.true c.has-may.ensures) c.in_err-prices.ensures.refused)

pub loop-i-preserved : goal.loop-i-preserved
loop-i-preserved c =
    let input = c.args.input.now in
    let l = c.args.l.0 in
    let old = c.args.table.now in
    let lt : c.loop-i.i < length c.args.input.now.instance.trips =
    omega (arith, c.loop-i-test.true, c.trips-i-end.ensures.count) in
    elim c.if-may.branch [
      | then-may+in_ok-prices w ↦
          let r = w.in_ok-prices.ensures.found in
          let a = w.in_ok-prices.prices.0 in
          let b = w.in_ok-prices.prices.1 in
          rw w.next-is
          (prices_with input c.args.at l c.loop-i.i c.loop-i.next old c.loop-i.table _ c.loop-i.invariant lt a b
          (is_permitted input.instance l c.loop-i.i c.trip.result.now c.has-may.result c.trip.ensures w.if-may.true
          c.has-may.ensures) r
          (record {
            into_is = pushed _ c.loop-i.table.into.items c.if-may.prices.0 a c.in_ok-add_trip.ensures.into
                (ap (λ (x : ℤ × ℤ). x.0) w.prices-is) r.into_price;
            from_is = pushed _ c.loop-i.table.from.items c.if-may.prices.1 b c.in_ok-add_trip.ensures.from
                (ap (λ (x : ℤ × ℤ). x.1) w.prices-is) r.from_price;
            fleet_is = c.add_trip.ensures.fleet;
            ray_is = c.add_trip.ensures.ray;
          }))
      | else-may w ↦
          rw w.next-is
          (prices_without input c.args.at l c.loop-i.i c.loop-i.next old c.loop-i.table _ c.loop-i.invariant lt
          (not_permitted input.instance l c.loop-i.i c.trip.result.now c.has-may.result c.trip.ensures w.if-may.false
          c.has-may.ensures)
          (record {
            into_is = pushed _ c.loop-i.table.into.items c.if-may.prices.0 (pos 0) c.in_ok-add_trip.ensures.into
                (ap (λ (x : ℤ × ℤ). x.0) w.prices-is) zero_price;
            from_is = pushed _ c.loop-i.table.from.items c.if-may.prices.1 (pos 0) c.in_ok-add_trip.ensures.from
                (ap (λ (x : ℤ × ℤ). x.1) w.prices-is) zero_price;
            fleet_is = c.add_trip.ensures.fleet;
            ray_is = c.add_trip.ensures.ray;
          }))
    ]

pub returns-clause-found : goal.returns-clause-found
returns-clause-found c =
    prices_end c.args.input.now c.args.at c.args.l.0 c.loop-i.i c.loop-i.next c.args.table.now c.loop-i.table
    c.loop-i.invariant (omega (arith, c.loop-i-test.false, c.trips-i-end.ensures.count))
