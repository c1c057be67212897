use Rattle.vs_document.proofs.parts.TreeReading.{TreeSoFar}
use Rattle.vs_document.proofs.reading.tree.read_tree.Given as goal

abbrev pub invariant-loop-row : goal.invariant-loop-row
invariant-loop-row l = TreeSoFar l.input l.at l.tables l.row l.parts l.shape.items
