use Rattle.vs_tree.specs.Report.{IsOpenCount}
use Rattle.vs_tree.proofs.tree.open_leaves.Given as goal

abbrev pub invariant-loop-k : goal.invariant-loop-k
invariant-loop-k l = IsOpenCount l.places.places l.worths l.fn.known l.k l.count
