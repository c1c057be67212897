use Rattle.std.proofs.Common.{List, ℕ, subst, rules, SFits, w64}
use Rattle.std.proofs.lemmas.Int.{to_z-of_z}
use Rattle.std.specs.BinaryHeap.{heap_items}
use Rattle.vs_queue.specs.Queues.{AreQueued, IsTaken}
use Rattle.vs_queue.proofs.heap.Queuing.{taken-near, top-least, within-keys}
use Rattle.vs_queue.proofs.queue.Queue.take.Goals as goal

pub returns-in-Some-clause-taken : goal.returns-in-Some-clause-taken
returns-in-Some-clause-taken c =
    let keys = c.args.table.now.waiting in
    let now = c.args.self.now in
    let rest = c.pop.new.self.items in
    let v = c.in-Some.node in
    let far = heap_items now.far in
    let P : List ℕ → Type 0 = λ stack. AreQueued keys stack now.floor far now.complete in
    let queue = subst P c.in-Some.ensures.items c.requires in
    let fits : SFits w64 now.floor = search rules in
    let taken : IsTaken keys v now.floor
    (record { near = c.pop.new.self; floor = now.floor; far = now.far; complete = now.complete }) =
    record {
      least = top-least keys rest now.floor far now.complete v queue;
      queue = taken-near keys rest now.floor far now.complete v queue;
    } in
    rw to_z-of_z taken

pub returns-in-Some-clause-else_same : goal.returns-in-Some-clause-else_same
returns-in-Some-clause-else_same c =
    let keys = c.args.table.now.waiting in
    let now = c.args.self.now in
    let far = heap_items now.far in
    let P : List ℕ → Type 0 = λ stack. AreQueued keys stack now.floor far now.complete in
    let queue = subst P c.in-Some.ensures.items c.requires in
    within-keys keys c.in-Some.node now.floor
    (top-least keys c.pop.new.self.items now.floor far now.complete c.in-Some.node queue).has
