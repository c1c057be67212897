use Rattle.std.proofs.Common.{◌≡◌, drop, take}
use Rattle.vs_instance.specs.Misfits.{first_misfit, deadhead_misfits, has_twin_before, deadheads_misfits, deadheads_of}
use Rattle.vs_instance.proofs.misfits.Firsts.{first_from}
use Rattle.vs_instance.proofs.gather.ways_of.Given as goal

-- those before are written down, and those from here on have the first misfit of all
abbrev pub invariant-loop-n : goal.invariant-loop-n
invariant-loop-n l = record {
  stops : l.ways.stops ≡ l.fn.stops;
  given : l.ways.given ≡ deadheads_of (take l.n l.deadheads);
  first : first_from (λ n d. deadhead_misfits (has_twin_before l.deadheads n d) n d) l.n (drop l.n l.deadheads)
      ≡ first_misfit (deadheads_misfits l.deadheads);
}
