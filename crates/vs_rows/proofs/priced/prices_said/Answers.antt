use Rattle.vs_rows.proofs.tables.PriceRows.{no_price_row}
use Rattle.vs_rows.proofs.priced.prices_said.Goals as goal

pub returns-in_err-layer-clause-none : goal.returns-in_err-layer-clause-none
returns-in_err-layer-clause-none c =
    rw c.from_residual.ensures
    (no_price_row c.args.input.now c.args.row c.in_default.ensures.none c.in_err-layer.ensures.none)
