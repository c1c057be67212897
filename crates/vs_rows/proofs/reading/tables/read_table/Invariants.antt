use Rattle.std.proofs.Common.{◌+◌}
use Rattle.vs_rows.proofs.tables.LayerReading.{LayersSoFar}
use Rattle.vs_rows.proofs.reading.tables.read_table.Given as goal

abbrev pub invariant-loop-l : goal.invariant-loop-l
invariant-loop-l l = LayersSoFar l.input (l.at + 1) l.l l.next l.initial.table.ray l.table
