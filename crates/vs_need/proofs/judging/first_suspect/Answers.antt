use Rattle.std.proofs.Common.{length, arith, sym}
use Rattle.vs_instance.proofs.CallerLemmas.{first_below-step, first_below-found}
use Rattle.vs_prices.specs.Breaks.{trip_breaks}
use Rattle.vs_need.specs.Suspects.{trips_breaks}
use Rattle.vs_need.proofs.Suspecting.{for_all}
use Rattle.vs_need.proofs.judging.first_suspect.Goals as goal

pub returns-in-Some : goal.returns-in-Some
returns-in-Some g c =
    for_all g.p c.args.table.now c.args.l.0 (trip_breaks g.p c.args.table.now c.args.l.0 c.loop-i.i)
    (trips_breaks g.p c.args.table.now c.args.l.0) c.in-Some.suspect c.in-Some.ensures
    (λ m here. first_below-found (trip_breaks g.p c.args.table.now c.args.l.0) c.loop-i.i (length g.p.trips) _
    c.loop-i.invariant m (omega (arith, c.requires.prices.each_into, c.loop-i-test.true)) here)

pub loop-i-preserved : goal.loop-i-preserved
loop-i-preserved g c =
    first_below-step (trip_breaks g.p c.args.table.now c.args.l.0) c.loop-i.i (length g.p.trips) _ c.loop-i.invariant
    (omega (arith, c.requires.prices.each_into, c.loop-i-test.true)) (sym c.in_default.ensures)
