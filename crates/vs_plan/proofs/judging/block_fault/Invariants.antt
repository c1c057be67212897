use Rattle.std.proofs.Common.{◌≡◌, length}
use Rattle.vs_instance.specs.Firsts.{first}
use Rattle.vs_instance.proofs.CallerLemmas.{first_below}
use Rattle.vs_plan.specs.PlanFaults.{place_faults, trips_faults}
use Rattle.vs_plan.proofs.judging.block_fault.Given as goal

-- the places from here on have the first fault of all places
abbrev pub invariant-loop-place : goal.invariant-loop-place
invariant-loop-place l =
    first_below (place_faults l.instance l.b l.block.layer l.block.trips.items) l.place (length l.block.trips.items)
    ≡ first (trips_faults l.instance l.b l.block.layer l.block.trips.items)
