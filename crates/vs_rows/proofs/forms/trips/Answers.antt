use Rattle.std.proofs.Common.{arith}
use Rattle.vs_reader.specs.Rows.{row_of}
use Rattle.vs_rows.proofs.words.Names.{no_trips_in_row, row_trips_more, row_trips_all}
use Rattle.vs_rows.proofs.forms.trips.Goals as goal

pub returns-in_default-clause-none : goal.returns-in_default-clause-none
returns-in_default-clause-none c =
    no_trips_in_row c.args.input.now.names.trips (row_of c.args.input.now.rest c.args.row) c.loop-k.k _ (omega arith)
    (omega arith) c.field.ensures c.in_default.ensures.none

pub loop-k-preserved : goal.loop-k-preserved
loop-k-preserved c = rw c.in_ok-push.ensures.items
    (row_trips_more c.args.input.now.names.trips
    (row_of c.args.input.now.rest c.args.row) c.loop-k.k _ c.loop-k.trips.items c.in-Some.trip (omega arith)
    (omega arith) c.field.ensures
    c.loop-k.invariant c.in-Some.ensures.found.0 c.in-Some.ensures.found.1)

pub returns-clause-found : goal.returns-clause-found
returns-clause-found c =
    row_trips_all c.args.input.now.names.trips (row_of c.args.input.now.rest c.args.row) c.loop-k.k c.loop-k.trips.items
    (omega arith) c.loop-k.invariant
