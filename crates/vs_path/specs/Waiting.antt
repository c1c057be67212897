-- Nodes that wait until costs fall along their steps.
use Rattle.std.specs.Prelude.{◌≡◌, ℕ, length, replicate, None}
use Rattle.vs_queue.specs.NodeLists.{NodeLists}

-- each of so many nodes can wait: none is settled
pub record CanWait (nodes : ℕ) (heap : NodeLists) : Type 0 where
  pub settled : heap.settled ≡ replicate nodes None
  pub waiting : length heap.waiting ≡ nodes
