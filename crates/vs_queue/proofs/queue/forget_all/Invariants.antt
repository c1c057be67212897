use Rattle.std.proofs.Common.{◌≡◌, ◌<◌, ℕ, None, length}
use Rattle.vs_queue.specs.Keys.{key_at}
use Rattle.vs_queue.proofs.queue.forget_all.Given as goal

-- the nodes so far have no key
abbrev pub invariant-loop-v : goal.invariant-loop-v
invariant-loop-v l = record {
  none : (v : ℕ) → v < l.v → key_at l.table.waiting v ≡ None;
  size : length l.table.waiting ≡ length l.fn.table.waiting;
  settled : l.table.settled ≡ l.fn.table.settled;
  steps : l.table.steps ≡ l.fn.table.steps;
}
