use Rattle.std.proofs.Common.{sym, subst, rules, SFits, w64}
use Rattle.std.proofs.lemmas.Int.{to_z-of_z}
use Rattle.vs_queue.specs.Keys.{Keys}
use Rattle.vs_queue.specs.Queues.{IsQueue}
use Rattle.vs_queue.proofs.node_heap.NodeHeap.lower.Goals as goal

pub invariant_of-self : goal.invariant_of-self
invariant_of-self c =
    let fits : SFits w64 c.args.key = search rules in
    let waiting = simp to_z-of_z at c.wait.ensures.waiting in
    let queue = simp to_z-of_z at c.lower.ensures in
    let P : Keys → Type 0 = λ k. IsQueue k c.lower.new.self in
    subst P (sym waiting) queue
