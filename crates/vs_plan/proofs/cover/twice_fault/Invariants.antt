use Rattle.std.proofs.Common.{◌≡◌, drop}
use Rattle.vs_instance.specs.Firsts.{first}
use Rattle.vs_instance.proofs.CallerLemmas.{first_from}
use Rattle.vs_plan.specs.PlanFaults.{twice, twice_faults}
use Rattle.vs_plan.proofs.cover.twice_fault.Given as goal

-- those from here on have the first fault of all
abbrev pub invariant-loop-i : goal.invariant-loop-i
invariant-loop-i l = first_from twice l.i (drop l.i l.times) ≡ first (twice_faults l.times)
