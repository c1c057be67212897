use Rattle.std.proofs.Common.{rules}
use Rattle.vs_prices.specs.Bounds.{IsBelow}
use Rattle.vs_resume.proofs.worths.LeastWorths.{none_below}
use Rattle.vs_resume.proofs.order.next_case.Goals as goal

pub returns-else-is_below-clause-none : goal.returns-else-is_below-clause-none
returns-else-is_below-clause-none c =
    let not : ¬ (IsBelow c.index-cases-k.result.worth c.args.cost) = search rules in
    none_below c.args.cases.now c.args.cost c.first_least-k.result c.index-cases-k.result c.first_least-k.ensures
    c.index-cases-k.is not
