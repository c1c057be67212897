use Rattle.std.proofs.Common.{◌≡◌, ℕ, List, length, replicate, ◌∙◌, ap, sym, subst, rules, true}
use Rattle.vs_circ.specs.declared.leeways.Side.TheVariants.{Leaving, Entering}
use Rattle.vs_circ.specs.node_prices.Leeways.{AreLeeways}
use Rattle.vs_circ.proofs.prices.Holding.{if-ok, table-holds, table-pays}
use Rattle.vs_circ.proofs.prices.Passes.{no-leeways}
use Rattle.vs_circ.proofs.price_tables.ray_prices.Goals as goal

pub returns-clause-holding : goal.returns-clause-holding
returns-clause-holding c =
    let n = c.args.net.now in
    let prices = c.args.prices.now in
    let none : c.fill.new.self ≡ replicate (length prices) 0 =
    c.fill.ensures.after (search rules) ∙ ap (λ (k : ℕ). replicate k 0) c.requires.none in
    let entering : AreLeeways n true Entering prices c.fill.new.self =
    subst (λ (xs : List ℕ). AreLeeways n true Entering prices xs) (sym none)
    (no-leeways n true Entering prices (length prices) c.requires.each_node c.requires.moves) in
    let leaving : AreLeeways n true Leaving prices c.fill.new.self =
    subst (λ (xs : List ℕ). AreLeeways n true Leaving prices xs) (sym none)
    (no-leeways n true Leaving prices (length prices) c.requires.each_node c.requires.moves) in
    if-ok c.table_of.result c.table_of.ensures
    (λ given table p l is lawful count.
    table-holds p l n true prices c.fill.new.self c.fill.new.self c.args.trips given lawful count
    c.requires.each_node c.requires.span entering leaving table)

pub returns-clause-pays : goal.returns-clause-pays
returns-clause-pays c =
    if-ok c.table_of.result c.table_of.ensures
    (λ given table.
    table-pays c.args.net.now c.args.prices.now c.fill.new.self c.fill.new.self c.args.trips given table)
