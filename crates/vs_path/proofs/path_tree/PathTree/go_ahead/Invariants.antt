use Rattle.vs_path.specs.PathTree.{IsPathTree, paths_of}
use Rattle.vs_path.specs.Waiting.{CanWait}
use Rattle.vs_path.proofs.path_tree.PathTree.go_ahead.Given as goal

-- costs fell, and nodes wait
abbrev pub invariant-loop : goal.invariant-loop
invariant-loop l = record {
  tree : IsPathTree l.residual 0 (paths_of l.self);
  heap : CanWait l.residual.graph.nodes l.heap;
}
