use Rattle.std.proofs.Common.{◌+◌, []}
use Rattle.vs_rows.specs.PriceOrder.{prices_of}
use Rattle.vs_rows.proofs.CallerLemmas.{bad_row, wrong_within}
use Rattle.vs_document.specs.DocumentRefusals.{documents}
use Rattle.vs_document.specs.Places.{InTable}
use Rattle.vs_document.proofs.parts.PricePlaces.{table_refused}
use Rattle.vs_document.proofs.parts.SamePlaces.{no_table}
use Rattle.vs_document.proofs.reading.tables.next_table.Goals as goal

pub wrong_price-requires-clause-row : goal.wrong_price-requires-clause-row
wrong_price-requires-clause-row c =
    let input = c.args.input.now in
    wrong_within input (prices_of input.instance) (c.args.at + 1) c.in-Prices.row c.in-Prices.why
    (rw c.in-Prices.is at c.in-Err.ensures.refused).2

pub returns-in-NoTable-clause-refused : goal.returns-in-NoTable-clause-refused
returns-in-NoTable-clause-refused c =
    rw c.refusal.ensures
    (bad_row documents c.args.input.now c.args.at c.requires.row
    (no_table c.args.input.now.names _ c.requires.kind (rw c.in-NoTable.is at c.in-Err.ensures.refused))
    (InTable c.args.before []) (λ e. cc))

pub returns-in-Prices-clause-refused : goal.returns-in-Prices-clause-refused
returns-in-Prices-clause-refused c =
    let refused = rw c.in-Prices.is at c.in-Err.ensures.refused in
    table_refused c.args.input.now c.args.at c.args.before c.in-Prices.row c.in-Prices.why refused.0
    c.wrong_price.result refused.1 refused.2 (c.wrong_price.ensures (c.args.before + 1))
