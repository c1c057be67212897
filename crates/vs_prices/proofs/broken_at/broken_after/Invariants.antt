use Rattle.std.proofs.Common.{◌≡◌, length}
use Rattle.std.specs.Prelude.{flat_map}
use Rattle.std.specs.List.{range_with_len}
use Rattle.vs_instance.specs.Firsts.{first}
use Rattle.vs_instance.proofs.CallerLemmas.{first_below}
use Rattle.vs_prices.specs.Breaks.{link_breaks}
use Rattle.vs_prices.proofs.broken_at.broken_after.Given as goal

-- the trips from here on have the first break of all
abbrev pub invariant-loop-j : goal.invariant-loop-j
invariant-loop-j l = first_below (link_breaks l.instance l.table l.l.0 l.i.0) l.j (length l.instance.trips)
    ≡ first (flat_map (link_breaks l.instance l.table l.l.0 l.i.0) (range_with_len 0 (length l.instance.trips)))
