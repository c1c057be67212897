use Rattle.std.proofs.Common.{arith}
use Rattle.vs_instance.specs.Misfits.{misfits_by}
use Rattle.vs_instance.proofs.misfits.Firsts.{first_below-step, first_below-found}
use Rattle.vs_instance.proofs.closure.detours_from.Goals as goal

pub returns-in-Some : goal.returns-in-Some
returns-in-Some c =
    first_below-found
    (misfits_by c.args.ways.now.stops c.args.ways.now.given c.args.k.0) c.loop-s.s c.args.ways.now.stops _
    c.loop-s.invariant
    c.in-Some.misfit (omega arith) c.in-Some.ensures

pub loop-s-preserved : goal.loop-s-preserved
loop-s-preserved c =
    first_below-step
    (misfits_by c.args.ways.now.stops c.args.ways.now.given c.args.k.0) c.loop-s.s c.args.ways.now.stops _
    c.loop-s.invariant
    (omega arith) c.in_default.ensures
