use Rattle.std.proofs.Common.{drop}
use Rattle.vs_resume.proofs.trees.RowWalks.{AreGoneOver}
use Rattle.vs_resume.proofs.cases.cases_of.Given as goal

-- the rows from here on are still to come
abbrev pub invariant-loop-row : goal.invariant-loop-row
invariant-loop-row l = AreGoneOver l.instance l.tables l.fn.sets.items l.rows (drop l.row-index l.rows) l.walk
