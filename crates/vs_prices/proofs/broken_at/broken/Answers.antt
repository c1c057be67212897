use Rattle.std.proofs.Common.{Some, None, length, sym, ◌∙◌, arith}
use Rattle.vs_instance.proofs.CallerLemmas.{first_below-step, first_below-found, first_below-past}
use Rattle.vs_prices.specs.Breaks.{layer_breaks}
use Rattle.vs_prices.proofs.NoBreaks.{none_where_holds}
use Rattle.vs_prices.proofs.RealBreaks.{first_broken}
use Rattle.vs_prices.proofs.broken_at.broken.Goals as goal

pub returns-in-Some-clause-first : goal.returns-in-Some-clause-first
returns-in-Some-clause-first c =
    first_below-found (layer_breaks c.args.instance.now c.args.table.now) c.loop-l.l
    (length c.args.instance.now.layers) _ c.loop-l.invariant
    c.in-Some.at (omega (arith, c.layers-l-end.ensures.count)) c.in-Some.ensures

pub returns-in-Some-clause-holds : goal.returns-in-Some-clause-holds
returns-in-Some-clause-holds c =
    none_where_holds c.args.instance.now c.args.table.now (Some c.in-Some.at) (returns-in-Some-clause-first c)

pub returns-in-Some-clause-broken : goal.returns-in-Some-clause-broken
returns-in-Some-clause-broken c =
    first_broken c.args.instance.now c.args.table.now (Some c.in-Some.at) (returns-in-Some-clause-first c)

pub loop-l-preserved : goal.loop-l-preserved
loop-l-preserved c =
    first_below-step (layer_breaks c.args.instance.now c.args.table.now) c.loop-l.l
    (length c.args.instance.now.layers) _ c.loop-l.invariant
    (omega (arith, c.layers-l-end.ensures.count)) c.in_default.ensures

pub returns-clause-first : goal.returns-clause-first
returns-clause-first c =
    sym (first_below-past (layer_breaks c.args.instance.now c.args.table.now) c.loop-l.l
    (length c.args.instance.now.layers)
    (omega (arith, c.layers-l-end.ensures.count, c.loop-l-test.false))) ∙ c.loop-l.invariant

pub returns-clause-holds : goal.returns-clause-holds
returns-clause-holds c = none_where_holds c.args.instance.now c.args.table.now None (returns-clause-first c)
