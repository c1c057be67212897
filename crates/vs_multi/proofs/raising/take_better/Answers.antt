use Rattle.std.proofs.Common.{◌∙◌}
use Rattle.vs_prices.proofs.CallerLemmas.{else_no_less}
use Rattle.vs_multi.proofs.BoundOrder.{worth_along}
use Rattle.vs_multi.proofs.Exchanged.{fleet_back, from_back, into_back}
use Rattle.vs_multi.proofs.raising.take_better.Goals as goal

pub returns-then-gains-clause-no_less : goal.returns-then-gains-clause-no_less
returns-then-gains-clause-no_less c =
    else_no_less c.args.least c.worth-raised.result
    (λ more. let never = c.if-gains.ensures.1 more in absurd cc)

pub returns-else-gains-clause-worth : goal.returns-else-gains-clause-worth
returns-else-gains-clause-worth c =
    let p = c.args.instance.now in
    let l = c.args.l.0 in
    let prices = c.args.prices.now in
    let taken = c.exchange.new.prices in
    let old = c.args.table.now in
    let mid = c.exchange.new.table in
    let new = c.exchange-else-gains.new.table in
    let there = c.exchange.ensures in
    let back = c.exchange-else-gains.ensures.exchanged in
    worth_along p c.args.sets.now old new
    (into_back p l c.requires.layer prices taken old mid new c.requires.prices c.requires.table.fits there.exchanged
    there.before back)
    (from_back p l c.requires.layer prices taken old mid new c.requires.prices c.requires.table.fits there.exchanged
    there.before back)
    (fleet_back p l c.requires.layer prices taken old mid new c.requires.prices c.requires.table.fits there.exchanged
    there.before back)
    (back.ray ∙ there.exchanged.ray) c.args.least c.requires.worth
