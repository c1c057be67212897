use Rattle.std.proofs.Common.{◌≡◌, length}
use Rattle.vs_queue.specs.Queues.{IsQueue}
use Rattle.vs_queue.proofs.queue.Queue.unstack.Given as goal

-- the nodes so far are in the heap
abbrev pub invariant-loop-node : goal.invariant-loop-node
invariant-loop-node l = record {
  queue : IsQueue l.table.waiting l.self;
  floor : l.self.floor ≡ l.fn.self.floor;
}

abbrev pub decreases-loop-node : goal.decreases-loop-node
decreases-loop-node l = length l.self.near.items
