use Rattle.std.proofs.Common.{◌≡◌, ℕ, ◌<◌, get_or}
use Rattle.vs_path.specs.Labels.{AreLabels, IsBound, IsLowered, IsRelaxed, lists_of}
use Rattle.vs_path.specs.Residual.{step_along}
use Rattle.vs_path.proofs.labels.Labels.relax_along.Given as goal

-- the steps so far are relaxed
abbrev pub invariant-loop-k : goal.invariant-loop-k
invariant-loop-k l = record {
  bound : IsBound l.surplus (lists_of l.self) l.self.bound;
  labels : AreLabels l.residual l.prices (lists_of l.self);
  lowered : IsLowered (lists_of l.fn.self) (lists_of l.self);
  relaxed : (i : ℕ) → i < l.k-index
      → IsRelaxed l.residual l.prices l.surplus (lists_of l.self) l.departure.node l.departure.distance
      (step_along l.way (get_or l.k-items i 0));
  order : l.self.order ≡ l.fn.self.order;
}
