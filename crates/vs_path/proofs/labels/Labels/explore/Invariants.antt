use Rattle.std.proofs.Common.{◌≤◌, ◌-◌, length}
use Rattle.std.specs.Prelude.{vec_capacity}
use Rattle.vs_path.specs.Labels.{IsBound, IsUnderWay, lists_of}
use Rattle.vs_path.proofs.labels.Labels.explore.Given as goal

abbrev pub invariant-loop-node : goal.invariant-loop-node
invariant-loop-node l = record {
  under_way : IsUnderWay l.residual l.prices l.surplus l.source (lists_of l.self);
  bound : IsBound l.surplus (lists_of l.self) l.self.bound;
  space : vec_capacity l.fn.self.order ≤ vec_capacity l.self.order;
}

abbrev pub decreases-loop-node : goal.decreases-loop-node
decreases-loop-node l = l.residual.graph.nodes - length l.self.order.items
