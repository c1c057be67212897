use Rattle.std.proofs.Common.{◌≡◌, sym, ◌∙◌, subst}
use Rattle.vs_instance.specs.HoldingTable.{scaled}
use Rattle.vs_instance.specs.Pieces.{trip_piece}
use Rattle.vs_prices.proofs.PriceNumbers.{IsScaled, passed_cost, scaled-IsScaled, small_piece, same_difference, sum_fits, difference, difference_fits}
use Rattle.vs_prices.proofs.table_worth.trip_price.Goals as goal

scaled_is : (c : goal.After-scaled)
    → c.scaled.result ≡ scaled c.args.table.now.ray (trip_piece c.args.instance.now c.args.l.0 c.args.i.0)
scaled_is c =
    c.scaled.ensures (trip_piece c.args.instance.now c.args.l.0 c.args.i.0)
    (passed_cost c.trip_cost.result c.trip_cost.ensures.limit ∙ c.trip_cost.ensures.value)

within : (c : goal.After-scaled) → IsScaled c.scaled.result
within c =
    subst IsScaled (sym (scaled_is c))
    (scaled-IsScaled c.args.table.now.ray (trip_piece c.args.instance.now c.args.l.0 c.args.i.0)
    (small_piece c.trip_cost.result
    (trip_piece c.args.instance.now c.args.l.0 c.args.i.0) c.trip_cost.ensures.limit c.trip_cost.ensures.value))

pub overflow_add-result : goal.overflow_add-result
overflow_add-result c = sum_fits c.into_price-into.result c.scaled.result c.into_price-into.ensures.price (within c)

pub overflow_sub-result : goal.overflow_sub-result
overflow_sub-result c =
    difference_fits c.into_price-into.result c.scaled.result c.from_price-from.result
    c.into_price-into.ensures.price (within c) c.from_price-from.ensures.price

pub returns-clause-value : goal.returns-clause-value
returns-clause-value c =
    let d = difference c.into_price-into.result c.scaled.result c.from_price-from.result
    c.into_price-into.ensures.price (within c) c.from_price-from.ensures.price in
    d.value ∙ same_difference _ _ _ _ _ _ c.into_price-into.ensures.value (scaled_is c) c.from_price-from.ensures.value

pub returns-clause-low : goal.returns-clause-low
returns-clause-low c =
    (difference c.into_price-into.result c.scaled.result c.from_price-from.result c.into_price-into.ensures.price
    (within c) c.from_price-from.ensures.price).low

pub returns-clause-high : goal.returns-clause-high
returns-clause-high c =
    (difference c.into_price-into.result c.scaled.result c.from_price-from.result c.into_price-into.ensures.price
    (within c) c.from_price-from.ensures.price).high
