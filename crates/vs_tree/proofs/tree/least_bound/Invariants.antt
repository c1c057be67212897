use Rattle.vs_tree.specs.Report.{IsLeastOf}
use Rattle.vs_tree.proofs.tree.least_bound.Given as goal

abbrev pub invariant-loop-k : goal.invariant-loop-k
invariant-loop-k l = IsLeastOf l.places.places l.worths l.fn.known l.k l.least
