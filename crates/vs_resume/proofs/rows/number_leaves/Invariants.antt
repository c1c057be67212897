use Rattle.std.proofs.Common.{◌≤◌, length}
use Rattle.vs_resume.specs.Outlines.{with_numbers}
use Rattle.vs_resume.proofs.trees.RowSteps.{AreNumbered}
use Rattle.vs_resume.proofs.rows.number_leaves.Given as goal

-- the rows before have their numbers, and the others get those that are left
abbrev pub invariant-loop-row : goal.invariant-loop-row
invariant-loop-row l = record {
  few : l.k ≤ length l.numbers;
  numbered : AreNumbered (with_numbers l.fn.rows l.numbers) l.numbers l.rows l.row-index l.k;
}
