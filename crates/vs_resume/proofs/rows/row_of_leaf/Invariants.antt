use Rattle.std.proofs.Common.{◌≡◌, ◌+◌, drop}
use Rattle.vs_resume.specs.InPlace.{row_of_leaf}
use Rattle.vs_resume.proofs.rows.row_of_leaf.Given as goal

-- the leaf stands among the rows from here on, behind so many leaves
abbrev pub invariant-loop-at : goal.invariant-loop-at
invariant-loop-at l = row_of_leaf l.rows l.k ≡ l.at + row_of_leaf (drop l.at l.rows) l.left
