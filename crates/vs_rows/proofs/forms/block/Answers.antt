use Rattle.std.proofs.Common.{ap, drop}
use Rattle.vs_rows.proofs.forms.block.Goals as goal

pub returns-in-None-clause-none : goal.returns-in-None-clause-none
returns-in-None-clause-none c = λ b says.
    let none = rw c.in-None.is at c.in_ok-trips.ensures.none in
    none b.1
    (record { fields_are = ap (drop 2) says.written; trips_are = says.form.trips })
