use Rattle.std.proofs.Common.{◌+◌}
use Rattle.vs_reader.specs.Rows.{row_of}
use Rattle.vs_rows.specs.PriceOrder.{prices_of}
use Rattle.vs_rows.proofs.CallerLemmas.{wrong_within}
use Rattle.vs_trace.specs.Places.{AtTable}
use Rattle.vs_trace.proofs.PricePlaces.{no_table_order, number_refused, table_refused}
use Rattle.vs_trace.proofs.reading.tables.next_table.Goals as goal

pub wrong_price-requires-clause-row : goal.wrong_price-requires-clause-row
wrong_price-requires-clause-row c =
    let input = c.args.input.now in
    wrong_within input (prices_of input.instance) (c.args.at + 1) c.in-Prices.row c.in-Prices.why
    (rw c.in-Prices.is at c.in-Err.ensures.refused).2

pub returns-in-NoTable-clause-refused : goal.returns-in-NoTable-clause-refused
returns-in-NoTable-clause-refused c =
    let input = c.args.input.now in
    c.another_row.ensures (AtTable c.args.before) (λ e. cc)
    (no_table_order input.instance c.args.before input.names (row_of input.rest c.args.at)
    (rw c.in-NoTable.is at c.in-Err.ensures.refused))

pub returns-in-Number-clause-refused : goal.returns-in-Number-clause-refused
returns-in-Number-clause-refused c =
    rw c.refusal.ensures
    (number_refused c.args.input.now c.args.at c.args.before (rw c.in-Number.is at c.in-Err.ensures.refused))

pub returns-in-Prices-clause-refused : goal.returns-in-Prices-clause-refused
returns-in-Prices-clause-refused c =
    let refused = rw c.in-Prices.is at c.in-Err.ensures.refused in
    table_refused c.args.input.now c.args.at c.args.before c.in-Prices.row c.in-Prices.why refused.0
    c.wrong_price.result refused.1 refused.2 (c.wrong_price.ensures (c.args.before + 1))
