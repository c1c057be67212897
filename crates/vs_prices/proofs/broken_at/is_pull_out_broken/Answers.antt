use Rattle.std.proofs.Common.{◌∙◌}
use Rattle.vs_instance.specs.Pieces.{out_piece}
use Rattle.vs_prices.proofs.FirstBreaks.{exceeds-same}
use Rattle.vs_prices.proofs.PriceNumbers.{passed, price_fits}
use Rattle.vs_prices.proofs.broken_at.is_pull_out_broken.Goals as goal

pub returns : goal.returns
returns c =
    let piece = out_piece c.args.instance.now c.args.l.0 c.args.i.0 in
    let into =
    passed c.into_price-into.result (price_fits c.into_price-into.result c.into_price-into.ensures.price)
    ∙ c.into_price-into.ensures.value in
    let vehicle =
    passed c.vehicle_price-vehicle.result
    (price_fits c.vehicle_price-vehicle.result c.vehicle_price-vehicle.ensures.price)
    ∙ c.vehicle_price-vehicle.ensures.value in
    c.exceeds.ensures piece c.out_cost.ensures.value ∙ exceeds-same _ _ _ _ c.args.table.now.ray piece into vehicle
