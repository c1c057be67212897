use Rattle.std.proofs.Common.{◌≤◌}
use Rattle.std.specs.Prelude.{vec_capacity}
use Rattle.vs_path.specs.Labels.{lists_of, settled_at}
use Rattle.vs_path.proofs.found.Tracing.{IsTraced, place_of}
use Rattle.vs_path.proofs.labels.Labels.trace.Given as goal

-- the path so far leads from the node to the goal
abbrev pub invariant-loop-node : goal.invariant-loop-node
invariant-loop-node l = record {
  traced : IsTraced l.residual l.prices (lists_of l.self) l.goal l.node l.path.items;
  space : vec_capacity l.fn.path ≤ vec_capacity l.path;
}

abbrev pub decreases-loop-node : goal.decreases-loop-node
decreases-loop-node l = place_of (settled_at (lists_of l.self) l.node)
