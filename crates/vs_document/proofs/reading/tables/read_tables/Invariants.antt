use Rattle.std.proofs.Common.{◌-◌, length}
use Rattle.vs_document.proofs.parts.TableReading.{TablesSoFar}
use Rattle.vs_document.proofs.reading.tables.read_tables.Given as goal

abbrev pub invariant-loop-next : goal.invariant-loop-next
invariant-loop-next l = TablesSoFar l.input l.at l.next l.tables.items

abbrev pub decreases-loop-next : goal.decreases-loop-next
decreases-loop-next l = length l.input.rest - l.next
