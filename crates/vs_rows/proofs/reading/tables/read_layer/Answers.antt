use Rattle.std.proofs.Common.{refl}
use Rattle.vs_rows.specs.PriceOrder.{prices_from}
use Rattle.vs_rows.specs.TableReading.{IsWrongAt}
use Rattle.vs_rows.proofs.tables.ErrorsPass.{err_passes, err_weaker, ok_weaker}
use Rattle.vs_rows.proofs.tables.LayerReading.{layer_read, layer_wrong, layer_wrong_behind}
use Rattle.vs_rows.proofs.tables.PriceReading.{pushed}
use Rattle.vs_rows.proofs.reading.tables.read_layer.Goals as goal

pub returns-in_err-price-clause-refused : goal.returns-in_err-price-clause-refused
returns-in_err-price-clause-refused c =
    err_passes _ (IsWrongAt c.args.input.now c.args.at (prices_from c.args.input.now.instance c.args.l.0))
    c.from_residual.ensures.1
    (layer_wrong c.args.input.now c.args.at c.args.l.0 _ c.requires.layer c.in_err-price.ensures.refused)

pub returns-clause-found : goal.returns-clause-found
returns-clause-found c =
    let r = c.in_ok-price.ensures.found in
    ok_weaker c.read_prices.result _ _ c.read_prices.ensures.found
    (λ next s. layer_read c.args.input.now c.args.at c.args.l.0 next c.args.table.now _ c.read_prices.new.table
    c.in_ok-price.price c.requires.layer r refl refl refl
    (pushed _ c.args.table.now.fleet.items c.in_ok-price.price c.in_ok-price.price c.in_ok-push.ensures.items refl
    r.is_price) s)

pub returns-clause-refused : goal.returns-clause-refused
returns-clause-refused c =
    err_weaker c.read_prices.result _ _ c.read_prices.ensures.refused
    (λ e wrong. layer_wrong_behind c.args.input.now c.args.at c.args.l.0 c.in_ok-price.price e c.requires.layer
    c.in_ok-price.ensures.found wrong)
