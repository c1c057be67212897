use Rattle.std.proofs.Common.{arith}
use Rattle.vs_plan.proofs.BlockCosts.{first_before_last}
use Rattle.vs_plan.proofs.costs.run_times.Goals as goal

pub returns-clause-in_order : goal.returns-clause-in_order
returns-clause-in_order c =
    let runs =
    first_before_last c.args.instance.now c.args.l c.args.trips.now
    (record { 0 = 0 }) c.requires.instance c.requires.block in
    let runs' = rw (← c.trip-first.ensures, ← c.trip-last.ensures) at runs in
    omega (arith, runs')
