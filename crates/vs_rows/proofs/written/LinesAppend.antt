-- The lines of rows, part by part.
use Rattle.std.proofs.Common.{◌≡◌, List, ◌++◌}
use Rattle.std.proofs.lemmas.List.Concat.{flat_map-append}
use Rattle.vs_reader.specs.Rows.{Row, line, lines}

pub lines-append : (rows others : List Row) → lines (rows ++ others) ≡ lines rows ++ lines others
lines-append rows others = flat_map-append line rows others
