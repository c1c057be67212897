use Rattle.std.proofs.Common.{◌≡◌, drop}
use Rattle.vs_instance.specs.Firsts.{first}
use Rattle.vs_instance.proofs.CallerLemmas.{first_from}
use Rattle.vs_plan.specs.PlanFaults.{uncovered, uncovered_faults}
use Rattle.vs_plan.proofs.cover.uncovered_fault.Given as goal

-- those from here on have the first fault of all
abbrev pub invariant-loop-i : goal.invariant-loop-i
invariant-loop-i l = first_from uncovered l.i (drop l.i l.times) ≡ first (uncovered_faults l.times)
