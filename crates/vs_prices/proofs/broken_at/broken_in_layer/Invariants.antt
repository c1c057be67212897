use Rattle.std.proofs.Common.{◌≡◌, length}
use Rattle.vs_instance.specs.Firsts.{first}
use Rattle.vs_instance.proofs.CallerLemmas.{first_below}
use Rattle.vs_prices.specs.Breaks.{layer_breaks, trip_breaks}
use Rattle.vs_prices.proofs.broken_at.broken_in_layer.Given as goal

-- the trips from here on have the first break of all
abbrev pub invariant-loop-i : goal.invariant-loop-i
invariant-loop-i l =
    first_below (trip_breaks l.instance l.table l.l.0) l.i (length l.instance.trips)
    ≡ first (layer_breaks l.instance l.table l.l.0)
