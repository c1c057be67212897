use Rattle.std.proofs.Common.{◌≡◌, ◌≢◌, ◌⊎◌, ◌<◌, ℕ, ℤ, None, get_or, length}
use Rattle.vs_queue.specs.Keys.{key_at}
use Rattle.vs_queue.specs.Queues.{entry}
use Rattle.vs_queue.proofs.queue.forget_entries.Given as goal

-- the nodes of the entries so far have no key
abbrev pub invariant-loop-entry : goal.invariant-loop-entry
invariant-loop-entry l = record {
  none : (v : ℕ) → (key_at l.table.waiting v ≡ None)
      ⊎ ((key_at l.table.waiting v ≡ key_at l.fn.table.waiting v)
      × ((i : ℕ) (key : ℤ) → i < l.entry-index → get_or l.entries i (entry key v) ≢ entry key v));
  size : length l.table.waiting ≡ length l.fn.table.waiting;
  settled : l.table.settled ≡ l.fn.table.settled;
  steps : l.table.steps ≡ l.fn.table.steps;
}
