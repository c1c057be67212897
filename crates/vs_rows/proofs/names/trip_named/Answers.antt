use Rattle.vs_rows.proofs.words.Names.{no_name}
use Rattle.vs_rows.proofs.names.trip_named.Goals as goal

pub returns-in-Err-clause-none : goal.returns-in-Err-clause-none
returns-in-Err-clause-none c = no_name c.args.names.now.trips c.args.field.now c.trips-trips.ensures.names
    c.in-Err.ensures.cases.0
