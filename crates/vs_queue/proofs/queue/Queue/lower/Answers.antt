use Rattle.std.proofs.Common.{rules, SFits, w64}
use Rattle.std.proofs.lemmas.Int.{to_z-of_z}
use Rattle.vs_queue.proofs.heap.Queuing.{lowered-far, lowered-near}
use Rattle.vs_queue.proofs.queue.Queue.lower.Goals as goal

pub returns-then-not-stack : goal.returns-then-not-stack
returns-then-not-stack c =
    let fits : SFits w64 c.args.key = search rules in
    let floor = simp to_z-of_z at c.lower_floor.ensures.floor in
    let put = simp to_z-of_z at c.put.ensures.put in
    let stacked = c.if-not-stack.ensures in
    lowered-far c.args.table.now.waiting c.args.node c.args.key c.requires.node c.lower_floor.new.self c.stack.new.self
    c.put.new.self c.lower_floor.ensures.queue floor c.requires.lower stacked.stacked stacked.floor stacked.far
    stacked.complete put

pub returns-else-not-stack : goal.returns-else-not-stack
returns-else-not-stack c =
    let fits : SFits w64 c.args.key = search rules in
    let stacked = simp to_z-of_z at c.if-not-stack.ensures in
    lowered-near c.args.table.now.waiting c.args.node c.args.key c.requires.node c.lower_floor.new.self c.stack.new.self
    c.lower_floor.ensures.queue c.requires.lower stacked.stacked.0 stacked.stacked.1 stacked.floor stacked.far
    stacked.complete
