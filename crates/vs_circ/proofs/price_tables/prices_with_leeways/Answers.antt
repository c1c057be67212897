use Rattle.std.proofs.Common.{false}
use Rattle.vs_circ.proofs.prices.Holding.{if-ok, table-holds, table-pays}
use Rattle.vs_circ.proofs.price_tables.prices_with_leeways.Goals as goal

pub returns-clause-holding : goal.returns-clause-holding
returns-clause-holding c =
    let n = c.args.net.now in
    let prices = c.args.prices.now in
    if-ok c.table_of.result c.table_of.ensures
    (λ given table p l is lawful count.
    table-holds p l n false prices c.set_entering.new.leeways c.set_leaving.new.leeways c.args.trips given lawful count
    c.requires.prices.each_node c.requires.prices.span c.set_entering.ensures c.set_leaving.ensures table)

pub returns-clause-pays : goal.returns-clause-pays
returns-clause-pays c =
    if-ok c.table_of.result c.table_of.ensures
    (λ given table.
    table-pays c.args.net.now c.args.prices.now c.set_entering.new.leeways c.set_leaving.new.leeways c.args.trips
    given table)
