use Rattle.std.proofs.Common.{List}
use Rattle.vs_reader.specs.Rows.{Row}
use Rattle.vs_reader.specs.Drafts.{declared_of, IsSound}
use Rattle.vs_reader.specs.Left.{AreLeft}
use Rattle.vs_reader.proofs.texts.Progress.{IsProgress}
use Rattle.vs_reader.proofs.reading.read_declarations.Given as goal

abbrev pub invariant-loop-number : goal.invariant-loop-number
invariant-loop-number l = record {
  sound : IsSound l.version (declared_of l.draft);
  progress : (rows : List Row) → AreLeft l.fn.records rows → IsProgress l.version rows l.number l.draft l.records;
}
