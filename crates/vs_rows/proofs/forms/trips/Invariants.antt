use Rattle.std.proofs.Common.{◌-◌, take, drop}
use Rattle.vs_reader.specs.Rows.{row_of}
use Rattle.vs_rows.specs.RowForms.{NameTrips}
use Rattle.vs_rows.proofs.forms.trips.Given as goal

abbrev pub invariant-loop-k : goal.invariant-loop-k
invariant-loop-k l = NameTrips l.input.names.trips (take (l.k - 2) (drop 2 (row_of l.input.rest l.row))) l.trips.items
