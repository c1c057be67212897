use Rattle.std.proofs.Common.{length, arith}
use Rattle.vs_instance.proofs.CallerLemmas.{first_below-step, first_below-found}
use Rattle.vs_prices.specs.Breaks.{trip_breaks}
use Rattle.vs_prices.proofs.broken_at.broken_in_layer.Goals as goal

pub returns-in-Some : goal.returns-in-Some
returns-in-Some c =
    first_below-found (trip_breaks c.args.instance.now c.args.table.now c.args.l.0) c.loop-i.i
    (length c.args.instance.now.trips) _ c.loop-i.invariant
    c.in-Some.at (omega (arith, c.trips-i-end.ensures.count)) c.in-Some.ensures

pub loop-i-preserved : goal.loop-i-preserved
loop-i-preserved c =
    first_below-step (trip_breaks c.args.instance.now c.args.table.now c.args.l.0) c.loop-i.i
    (length c.args.instance.now.trips) _ c.loop-i.invariant
    (omega (arith, c.trips-i-end.ensures.count)) c.in_default.ensures
