use Rattle.std.proofs.Common.{◌≡◌, drop, length}
use Rattle.vs_instance.specs.Misfits.{first_misfit, layer_misfits, layers_misfits}
use Rattle.vs_instance.proofs.misfits.Firsts.{first_from}
use Rattle.vs_instance.proofs.ranges.layers_misfit.Given as goal

-- those from here on have the first misfit of all
abbrev pub invariant-loop-l : goal.invariant-loop-l
invariant-loop-l l = first_from (layer_misfits l.most l.count) l.l (drop l.l l.layers)
    ≡ first_misfit (layers_misfits l.most (length l.trips) l.layers)
