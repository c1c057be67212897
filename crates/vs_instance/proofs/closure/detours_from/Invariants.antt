use Rattle.std.proofs.Common.{◌≡◌}
use Rattle.vs_instance.specs.Misfits.{first_misfit, misfits_by, misfits_from}
use Rattle.vs_instance.proofs.misfits.Firsts.{first_below}
use Rattle.vs_instance.proofs.closure.detours_from.Given as goal

-- the stops from here on have the first misfit of all
abbrev pub invariant-loop-s : goal.invariant-loop-s
invariant-loop-s l =
    first_below (misfits_by l.ways.stops l.ways.given l.k.0) l.s l.ways.stops
    ≡ first_misfit (misfits_from l.ways.stops l.ways.given l.k.0)
