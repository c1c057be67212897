use Rattle.std.proofs.Common.{◌≤ℤ◌, arith, rules, SFits, w64}
use Rattle.std.proofs.lemmas.Int.{ints, to_z-of_z}
use Rattle.std.specs.BinaryHeap.{heap_items}
use Rattle.vs_queue.proofs.heap.Queuing.{floor-lowered}
use Rattle.vs_queue.proofs.queue.Queue.lower_floor.Goals as goal

pub returns-then-key-self-clause-queue : goal.returns-then-key-self-clause-queue
returns-then-key-self-clause-queue c =
    let new = c.unstack.new.self in
    let fits : SFits w64 c.args.key = search rules in
    let lower : c.args.key ≤ℤ new.floor = omega (arith, ints, c.if-key-self.true, c.unstack.ensures.floor) in
    rw to_z-of_z
    (floor-lowered c.args.table.now.waiting new.near.items new.floor c.args.key (heap_items new.far) new.complete
    c.unstack.ensures.queue c.unstack.ensures.none_near lower)
