use Rattle.std.proofs.Common.{◌≡◌}
use Rattle.vs_instance.specs.Misfits.{first_misfit, triple_misfits, misfits_by}
use Rattle.vs_instance.proofs.misfits.Firsts.{first_below}
use Rattle.vs_instance.proofs.closure.detours_by.Given as goal

-- the stops from here on have the first misfit of all
abbrev pub invariant-loop-t : goal.invariant-loop-t
invariant-loop-t l =
    first_below (triple_misfits l.ways.given l.k.0 l.s.0) l.t l.ways.stops
    ≡ first_misfit (misfits_by l.ways.stops l.ways.given l.k.0 l.s.0)
