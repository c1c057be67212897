use Rattle.std.proofs.Common.{List}
use Rattle.vs_reader.specs.Rows.{Row}
use Rattle.vs_reader.specs.Texts.{HasRows}
use Rattle.vs_messages.specs.Given.{WasGiven}
use Rattle.vs_messages.proofs.records.record_at.Given as goal

abbrev pub invariant-loop-count : goal.invariant-loop-count
invariant-loop-count l = record {
  given : (rows : List Row) → HasRows l.fn.text rows → WasGiven rows l._count l.records;
}
