use Rattle.std.proofs.Common.{sym, subst}
use Rattle.vs_queue.specs.Keys.{Keys}
use Rattle.vs_queue.specs.Queues.{IsQueue}
use Rattle.vs_queue.proofs.node_heap.NodeHeap.new.Goals as goal

pub invariant_of-result : goal.invariant_of-result
invariant_of-result c =
    let P : Keys → Type 0 = λ keys. IsQueue keys c.in_ok-queue.queue in
    subst P (sym c.in_ok-table.ensures.waiting) c.in_ok-queue.ensures
