use Rattle.std.proofs.Common.{◌≡◌}
use Rattle.vs_instance.specs.Misfits.{first_misfit, misfits_from, closure_misfits}
use Rattle.vs_instance.proofs.misfits.Firsts.{first_below}
use Rattle.vs_instance.proofs.closure.first_detour.Given as goal

-- the stops from here on have the first misfit of all
abbrev pub invariant-loop-k : goal.invariant-loop-k
invariant-loop-k l =
    first_below (misfits_from l.ways.stops l.ways.given) l.k l.ways.stops
    ≡ first_misfit (closure_misfits l.ways.stops l.ways.given)
