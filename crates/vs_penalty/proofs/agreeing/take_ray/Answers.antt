use Rattle.std.proofs.Common.{Option, sym, subst, IfSome}
use Rattle.vs_prices.specs.Bounds.{IsWorthNoLess}
use Rattle.vs_prices.specs.declared.table.Table.{Table}
use Rattle.vs_penalty.specs.Rays.{ShowsNoPlan}
use Rattle.vs_penalty.proofs.CallerLemmas.{shown-no_less}
use Rattle.vs_penalty.proofs.agreeing.take_ray.Goals as goal

pub returns-in-Some-clause-worth : goal.returns-in-Some-clause-worth
returns-in-Some-clause-worth g c =
    let p = c.args.case.now.instance.now in
    let sets = c.args.case.now.sets.now in
    let shows = subst (λ (ray : Option Table). IfSome ray (ShowsNoPlan p sets)) c.in-Some.is c.in_ok-found.ensures in
    subst (λ (t : Table). IsWorthNoLess p sets t c.args.table.now) (sym c.swap.ensures.x_after)
    (shown-no_less p sets c.in-Some.ray shows c.args.table.now)
