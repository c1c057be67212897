use Rattle.vs_path.specs.PathTree.{IsPathTree, paths_of, weight}
use Rattle.vs_path.proofs.path_tree.PathTree.correct.Given as goal

abbrev pub invariant-loop : goal.invariant-loop
invariant-loop l = IsPathTree l.residual 0 (paths_of l.self)

abbrev pub decreases-loop : goal.decreases-loop
decreases-loop l = weight (paths_of l.self)
