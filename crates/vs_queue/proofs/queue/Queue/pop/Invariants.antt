use Rattle.std.proofs.Common.{◌≡◌, [], true}
use Rattle.std.specs.BinaryHeap.{heap_len}
use Rattle.vs_queue.specs.Queues.{IsQueue}
use Rattle.vs_queue.proofs.queue.Queue.pop.Given as goal

-- what is left is a queue
abbrev pub invariant-loop-entry : goal.invariant-loop-entry
invariant-loop-entry l = record {
  queue : IsQueue l.table.waiting l.self;
  none_near : l.self.near.items ≡ [];
  complete : l.self.complete ≡ true;
}

abbrev pub decreases-loop-entry : goal.decreases-loop-entry
decreases-loop-entry l = heap_len l.self.far
