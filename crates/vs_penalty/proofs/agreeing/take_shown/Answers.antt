use Rattle.std.proofs.Common.{sym, subst}
use Rattle.vs_prices.specs.declared.table.Table.{Table}
use Rattle.vs_prices.specs.Bounds.{IsWorthNoLess}
use Rattle.vs_multi.proofs.CallerLemmas.{better_of}
use Rattle.vs_penalty.proofs.agreeing.take_shown.Goals as goal

pub returns-clause-no_less : goal.returns-clause-no_less
returns-clause-no_less c =
    let p = c.args.case.now.instance.now in
    let sets = c.args.case.now.sets.now in
    let own = c.worth-own_worth in
    let best = c.in_ok-best in
    let better = c.keep_better-greatest in
    let is = better_of p sets best.best.table c.args.table.now better.new.best better.new.table best.best.worth
    own.result better.result
    (record { fits = best.ensures.fits; holds = best.ensures.holds; is_worth = best.ensures.worth })
    (record { fits = c.requires.fits; holds = c.requires.holds; is_worth = own.ensures.worth }) better.ensures in
    subst (λ (t : Table). IsWorthNoLess p sets t c.args.table.now) (sym c.swap.ensures.x_after) is.no_less_other
