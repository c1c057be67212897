use Rattle.std.proofs.Common.{take}
use Rattle.vs_tree.specs.Search.{state}
use Rattle.vs_resume.specs.Parts.{AreWidenedTables}
use Rattle.vs_resume.proofs.part.widened_tables.Given as goal

-- the tables of the numbers before are widened
abbrev pub invariant-loop-number : goal.invariant-loop-number
invariant-loop-number l =
    AreWidenedTables l.instance l.sets (state l.tree) (take l.number-index l.numbers) l.tables.items
