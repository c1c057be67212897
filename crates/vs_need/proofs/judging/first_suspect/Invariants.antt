use Rattle.std.proofs.Common.{◌≡◌, length}
use Rattle.vs_instance.specs.Firsts.{first}
use Rattle.vs_instance.proofs.CallerLemmas.{first_below}
use Rattle.vs_prices.specs.Breaks.{trip_breaks}
use Rattle.vs_need.specs.Suspects.{trips_breaks}
use Rattle.vs_need.proofs.judging.first_suspect.Given as goal

abbrev pub ghost-suspect_at : goal.ghost-suspect_at
ghost-suspect_at g a = g.p

-- the trips from here on have the first break of all
abbrev pub invariant-loop-i : goal.invariant-loop-i
invariant-loop-i g l =
    first_below (trip_breaks g.p l.table l.l.0) l.i (length g.p.trips) ≡ first (trips_breaks g.p l.table l.l.0)
