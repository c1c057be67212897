use Rattle.std.proofs.Common.{sym, subst}
use Rattle.vs_instance.specs.deadheads.Lengths.{AreRows}
use Rattle.vs_instance.proofs.deadheads.LengthRows.{rows-square, rows-below, rows-closed}
use Rattle.vs_instance.proofs.lengths.is_closed_in.Goals as goal

pub is_closed-requires-clause-square : goal.is_closed-requires-clause-square
is_closed-requires-clause-square c =
    rows-square c.args.measure c.args.ways.now c.deref.result.now
    (subst (AreRows c.args.measure c.args.ways.now) (sym c.deref.ensures.value) c.in_ok-rows.ensures)

pub is_closed-requires-clause-few : goal.is_closed-requires-clause-few
is_closed-requires-clause-few c =
    rows-below c.args.measure c.args.ways.now c.deref.result.now
    (subst (AreRows c.args.measure c.args.ways.now) (sym c.deref.ensures.value) c.in_ok-rows.ensures) c.requires

pub returns : goal.returns
returns c = λ closed.
    rows-closed c.args.measure c.args.ways.now c.deref.result.now
    (subst (AreRows c.args.measure c.args.ways.now) (sym c.deref.ensures.value) c.in_ok-rows.ensures)
    (c.is_closed.ensures closed)
