use Rattle.std.proofs.Common.{subst}
use Rattle.vs_prices.specs.declared.bound.Bound.{Bound}
use Rattle.vs_prices.specs.Bounds.{IsNoLess}
use Rattle.vs_prices.proofs.CallerLemmas.{worth_once}
use Rattle.vs_multi.proofs.raising.raise.Goals as goal

pub returns-clause-no_less : goal.returns-clause-no_less
returns-clause-no_less c worth old is were =
    let case = c.args.case.now in
    subst (λ (b : Bound). IsNoLess worth b)
    (worth_once case.instance.now case.sets.now c.args.table.now c.args.least old c.requires.worth were)
    (c.raise_cost_table.ensures.raised.no_less worth is)
