use Rattle.std.proofs.Common.{arith, sym, ◌∙◌, length}
use Rattle.vs_instance.proofs.CallerLemmas.{first_below-found, first_below-past, first_below-step, first-skip, first-stop}
use Rattle.vs_plan.specs.PlanFaults.{place_faults, return_faults, trips_faults}
use Rattle.vs_plan.proofs.judging.block_fault.Goals as goal

pub returns-in-Some : goal.returns-in-Some
returns-in-Some c =
    let p = c.args.instance.now in
    let trips = c.args.block.now.trips.items in
    let found =
    first_below-found (place_faults p c.args.b c.args.block.now.layer trips) c.loop-place.place (length trips) _
    c.loop-place.invariant c.in-Some.fault (omega arith) c.in-Some.ensures in
    sym (first-stop (trips_faults p c.args.b c.args.block.now.layer trips)
    (return_faults p c.args.b c.args.block.now.layer trips) c.in-Some.fault (sym found))

pub loop-place-preserved : goal.loop-place-preserved
loop-place-preserved c =
    let trips = c.args.block.now.trips.items in
    first_below-step (place_faults c.args.instance.now c.args.b c.args.block.now.layer trips) c.loop-place.place
    (length trips) _
    c.loop-place.invariant (omega arith) c.in_default.ensures

pub returns : goal.returns
returns c =
    let p = c.args.instance.now in
    let trips = c.args.block.now.trips.items in
    let none = sym c.loop-place.invariant
    ∙ first_below-past (place_faults p c.args.b c.args.block.now.layer trips) c.loop-place.place (length trips)
    (omega arith) in
    c.return_fault.ensures
    ∙ sym (first-skip (trips_faults p c.args.b c.args.block.now.layer trips)
    (return_faults p c.args.b c.args.block.now.layer trips) none)
