use Rattle.std.proofs.Common.{◌<◌}
use Rattle.vs_path.specs.Residual.{arc_no}
use Rattle.vs_path.specs.PathTree.{IsCorrected, IsPathTree, paths_of}
use Rattle.vs_path.proofs.path_tree.PathTree.pass.Given as goal

-- the steps along the arcs so far are looked at
abbrev pub invariant-loop-k : goal.invariant-loop-k
invariant-loop-k l = record {
  tree : IsPathTree l.residual 0 (paths_of l.self);
  corrected : IsCorrected l.residual (paths_of l.fn.self) (paths_of l.self) (λ s. arc_no s < l.k) l.fell;
}
