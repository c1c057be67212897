use Rattle.std.proofs.Common.{sym, subst}
use Rattle.vs_queue.specs.Keys.{Keys}
use Rattle.vs_queue.specs.Queues.{IsQueue}
use Rattle.vs_queue.proofs.node_heap.NodeHeap.unsettle.Goals as goal

pub invariant_of-self : goal.invariant_of-self
invariant_of-self c =
    let P : Keys → Type 0 = λ keys. IsQueue keys c.self.inside.queue in
    subst P (sym c.take_place.ensures.waiting) c.self.invariant
