use Rattle.std.proofs.Common.{◌∙◌, refl}
use Rattle.vs_instance.specs.Pieces.{in_piece}
use Rattle.vs_prices.proofs.FirstBreaks.{exceeds-same}
use Rattle.vs_prices.proofs.PriceNumbers.{passed, price_fits}
use Rattle.vs_prices.proofs.broken_at.is_pull_in_broken.Goals as goal

pub returns : goal.returns
returns c =
    let piece = in_piece c.args.instance.now c.args.l.0 c.args.i.0 in
    let from =
    passed c.from_price-from.result (price_fits c.from_price-from.result c.from_price-from.ensures.price)
    ∙ c.from_price-from.ensures.value in
    c.exceeds.ensures piece c.in_cost.ensures.value ∙ exceeds-same _ _ _ _ c.args.table.now.ray piece refl from
