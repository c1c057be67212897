use Rattle.std.proofs.Common.{ℕ, List, get_or, subst, arith, Bool}
use Rattle.std.proofs.lemmas.List.Elements.{Contains-get_or}
use Rattle.std.specs.BinaryHeap.{heap_items}
use Rattle.std.specs.List.{Contains}
use Rattle.vs_queue.specs.declared.queue.Entry.{Entry}
use Rattle.vs_queue.specs.Queues.{AreEntriesForgotten, AreForgotten, AreQueued, IsOn}
use Rattle.vs_queue.proofs.heap.Queuing.{none-kept, within-keys}
use Rattle.vs_queue.proofs.queue.Queue.forget.Goals as goal

pub forget_nodes-requires : goal.forget_nodes-requires
forget_nodes-requires c v on =
    let now = c.args.self.now in
    let P : List ℕ → Type 0 = λ nodes. IsOn nodes v in
    within-keys c.args.table.now.waiting v now.floor (c.requires.near_too v (subst P c.deref.ensures.value on))

pub forget_entries-requires : goal.forget_entries-requires
forget_entries-requires c k d inside =
    let entries = c.as_slice.result.now in
    let P : List Entry → Type 0 = λ es. Contains es (get_or entries k d) in
    let is = subst P c.as_slice.ensures.value (Contains-get_or entries k d inside) in
    omega (arith, c.requires.nodes (get_or entries k d) is, c.forget_nodes.ensures.size)

pub returns-then-self-clause-none : goal.returns-then-self-clause-none
returns-then-self-clause-none c v =
    let keys = c.args.table.now.waiting in
    let now = c.args.self.now in
    let kept = c.forget_nodes.new.table.waiting in
    let left = c.forget_entries.new.table.waiting in
    let P : List ℕ → Type 0 = λ nodes. AreForgotten nodes keys kept in
    let Q : List Entry → Type 0 = λ entries. AreEntriesForgotten entries kept left in
    let R : Bool → Type 0 = λ all. AreQueued keys now.near.items now.floor (heap_items now.far) all in
    none-kept keys kept left now.near.items now.floor (heap_items now.far) (subst R c.if-self.true c.requires)
    (subst P c.deref.ensures.value c.forget_nodes.ensures.forgotten)
    (subst Q c.as_slice.ensures.value c.forget_entries.ensures.forgotten) v
