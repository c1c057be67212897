use Rattle.std.proofs.Common.{ap, sym}
use Rattle.vs_instance.specs.Misfits.{first_misfit}
use Rattle.vs_instance.proofs.deadheads.ClosedLengths.{closed_lengths}
use Rattle.vs_instance.proofs.closure.closure_misfit.Goals as goal

pub returns-then-in_metres : goal.returns-then-in_metres
returns-then-in_metres c =
    sym (ap first_misfit (closed_lengths c.args.ways.now c.requires
    (c.in_ok-in_minutes.ensures c.if-in_minutes.true) (c.in_ok-in_metres.ensures c.if-in_metres.true)))
