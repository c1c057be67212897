use Rattle.std.proofs.Common.{arith}
use Rattle.vs_instance.specs.Misfits.{misfits_from}
use Rattle.vs_instance.proofs.misfits.Firsts.{first_below-step, first_below-found}
use Rattle.vs_instance.proofs.closure.first_detour.Goals as goal

pub returns-in-Some : goal.returns-in-Some
returns-in-Some c =
    first_below-found
    (misfits_from c.args.ways.now.stops c.args.ways.now.given) c.loop-k.k c.args.ways.now.stops _ c.loop-k.invariant
    c.in-Some.misfit (omega arith) c.in-Some.ensures

pub loop-k-preserved : goal.loop-k-preserved
loop-k-preserved c =
    first_below-step
    (misfits_from c.args.ways.now.stops c.args.ways.now.given) c.loop-k.k c.args.ways.now.stops _ c.loop-k.invariant
    (omega arith) c.in_default.ensures
