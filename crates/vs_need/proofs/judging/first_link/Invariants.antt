use Rattle.std.proofs.Common.{◌≡◌, length}
use Rattle.vs_instance.specs.Firsts.{first}
use Rattle.vs_instance.proofs.CallerLemmas.{first_below}
use Rattle.vs_prices.specs.Breaks.{link_breaks, links_breaks}
use Rattle.vs_need.proofs.judging.first_link.Given as goal

-- the trips from here on have the first break of all
abbrev pub invariant-loop-j : goal.invariant-loop-j
invariant-loop-j g l =
    first_below (link_breaks g.p l.table l.l.0 l.i.0) l.j (length g.p.trips)
    ≡ first (links_breaks g.p l.table l.l.0 l.i.0)
