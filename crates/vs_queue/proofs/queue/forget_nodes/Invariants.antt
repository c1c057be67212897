use Rattle.std.proofs.Common.{◌≡◌, ◌≢◌, ◌⊎◌, ◌<◌, ℕ, None, get_or, length}
use Rattle.vs_queue.specs.Keys.{key_at}
use Rattle.vs_queue.proofs.queue.forget_nodes.Given as goal

-- the nodes so far have no key
abbrev pub invariant-loop-node : goal.invariant-loop-node
invariant-loop-node l = record {
  none : (v : ℕ) → (key_at l.table.waiting v ≡ None)
      ⊎ ((key_at l.table.waiting v ≡ key_at l.fn.table.waiting v)
      × ((i : ℕ) → i < l.node-index → get_or l.nodes i 0 ≢ v));
  size : length l.table.waiting ≡ length l.fn.table.waiting;
  settled : l.table.settled ≡ l.fn.table.settled;
  steps : l.table.steps ≡ l.fn.table.steps;
}
