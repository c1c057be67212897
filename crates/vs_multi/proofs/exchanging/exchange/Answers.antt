use Rattle.vs_multi.proofs.Exchanged.{agree_but, fits_still, holds_still, taken_hold}
use Rattle.vs_multi.proofs.exchanging.exchange.Goals as goal

pub returns-clause-others : goal.returns-clause-others
returns-clause-others c =
    agree_but c.args.instance.now c.args.l.0 c.requires.layer c.args.prices.now c.args.table.now c.trade.new.table
    c.requires.prices c.requires.fits c.trade.ensures.exchanged

pub returns-clause-fits : goal.returns-clause-fits
returns-clause-fits c =
    fits_still c.args.instance.now c.args.l.0 c.requires.layer c.args.prices.now c.args.table.now c.trade.new.table
    c.requires.prices c.requires.fits c.trade.ensures.exchanged

pub returns-clause-holds : goal.returns-clause-holds
returns-clause-holds c =
    holds_still c.args.instance.now c.args.l.0 c.requires.layer c.args.prices.now c.args.table.now c.trade.new.table
    c.requires.prices c.requires.fits c.trade.ensures.exchanged c.requires.costs c.requires.holds
    c.trade.ensures.after

pub returns-clause-prices : goal.returns-clause-prices
returns-clause-prices c =
    taken_hold c.args.instance.now c.args.l.0 c.requires.layer c.args.table.now c.trade.new.prices c.requires.fits
    c.requires.costs c.requires.holds c.trade.ensures.before
