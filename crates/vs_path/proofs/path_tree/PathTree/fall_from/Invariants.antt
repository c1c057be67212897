use Rattle.vs_path.specs.PathTree.{IsPathTree, paths_of}
use Rattle.vs_path.specs.Waiting.{CanWait}
use Rattle.vs_path.proofs.path_tree.PathTree.fall_from.Given as goal

-- costs fell, and nodes wait
abbrev pub invariant-loop-k : goal.invariant-loop-k
invariant-loop-k l = record {
  tree : IsPathTree l.residual 0 (paths_of l.self);
  heap : CanWait l.residual.graph.nodes l.heap;
}
