use Rattle.std.proofs.Common.{rules, SFits, w64}
use Rattle.std.proofs.lemmas.Int.{to_z-of_z}
use Rattle.std.specs.BinaryHeap.{heap_items}
use Rattle.vs_queue.specs.Queues.{IsTaken}
use Rattle.vs_queue.proofs.heap.Queuing.{found-least, taken-found}
use Rattle.vs_queue.proofs.queue.Queue.find.Goals as goal

pub returns-clause-taken : goal.returns-clause-taken
returns-clause-taken c =
    let keys = c.args.table.now.waiting in
    let now = c.args.self.now in
    let v = c.in_ok-node.node in
    let key = c.in_ok-node.key in
    let fits : SFits w64 key = search rules in
    let least = found-least keys (v, key) c.in_ok-node.ensures in
    let taken : IsTaken keys v key (record { near = now.near; floor = key; far = now.far; complete = now.complete }) =
    record {
      least = least;
      queue = taken-found keys now.near.items now.floor key (heap_items now.far) now.complete v c.requires.queue
          c.requires.none_near c.requires.incomplete least;
    } in
    rw to_z-of_z taken
