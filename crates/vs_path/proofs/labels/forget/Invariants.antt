use Rattle.std.proofs.Common.{◌≡◌, ◌<◌, ℕ, length, get_or, Some, None}
use Rattle.vs_queue.specs.declared.node_table.Settled.{Settled}
use Rattle.vs_path.proofs.labels.forget.Given as goal

abbrev pub invariant-loop-node : goal.invariant-loop-node
invariant-loop-node l = record {
  size : length l.heap.settled ≡ length l.fn.heap.settled;
  kept : (v : ℕ) (a : Settled) → get_or l.heap.settled v None ≡ Some a → get_or l.fn.heap.settled v None ≡ Some a;
  gone : (j : ℕ) → j < l.node-index → get_or l.heap.settled (get_or l.nodes j 0) None ≡ None;
  waiting : l.heap.waiting ≡ l.fn.heap.waiting;
  steps : l.heap.steps ≡ l.fn.heap.steps;
}
