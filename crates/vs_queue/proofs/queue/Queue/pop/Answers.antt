use Rattle.std.proofs.Common.{◌≡◌, ◌≢◌, Bool, List, ℕ, set, refl, sym, subst, rules, true, false, None, Some, SFits, w64}
use Rattle.std.proofs.lemmas.Int.{to_z-of_z}
use Rattle.std.specs.BinaryHeap.{heap_items}
use Rattle.vs_queue.specs.Keys.{key_at}
use Rattle.vs_queue.specs.Queues.{AreQueued, IsTaken}
use Rattle.vs_queue.proofs.heap.Queuing.{far-alone, popped-least, popped-stale, popped-taken, popped-within}
use Rattle.vs_queue.proofs.queue.Queue.pop.Goals as goal

pub counts-requires : goal.counts-requires
counts-requires c =
    let keys = c.args.table.now.waiting in
    let now = c.loop-entry.self in
    let inv = c.loop-entry.invariant in
    let q = far-alone keys now.near.items now.floor (heap_items now.far) now.complete inv.queue inv.none_near
    inv.complete in
    popped-within keys now.floor (heap_items now.far) (heap_items c.pop.new.self) c.in-Some.entry q
    c.in-Some.ensures.permutation c.in-Some.ensures.heap_order

pub returns-then-counts-clause-taken : goal.returns-then-counts-clause-taken
returns-then-counts-clause-taken c =
    let keys = c.args.table.now.waiting in
    let now = c.loop-entry.self in
    let inv = c.loop-entry.invariant in
    let x = c.in-Some.entry in
    let far = heap_items now.far in
    let rest = heap_items c.pop.new.self in
    let q = far-alone keys now.near.items now.floor far now.complete inv.queue inv.none_near inv.complete in
    let has = c.if-counts.ensures.0 refl in
    let left = popped-taken keys now.floor far rest x q c.in-Some.ensures.permutation c.in-Some.ensures.heap_order
    has in
    let P : List ℕ → Type 0 = λ stack. AreQueued (set keys x.node None) stack x.key.0 rest true in
    let Q : Bool → Type 0 = λ all. AreQueued (set keys x.node None) now.near.items x.key.0 rest all in
    let fits : SFits w64 x.key.0 = search rules in
    let taken : IsTaken keys x.node x.key.0
    (record { near = now.near; floor = x.key.0; far = c.pop.new.self; complete = now.complete }) =
    record {
      least = popped-least keys now.floor far rest x q c.in-Some.ensures.permutation c.in-Some.ensures.heap_order has;
      queue = subst Q (sym inv.complete) (subst P (sym inv.none_near) left);
    } in
    rw to_z-of_z taken

pub loop-entry-preserved : goal.loop-entry-preserved
loop-entry-preserved c =
    let keys = c.args.table.now.waiting in
    let now = c.loop-entry.self in
    let inv = c.loop-entry.invariant in
    let x = c.in-Some.entry in
    let far = heap_items now.far in
    let rest = heap_items c.pop.new.self in
    let q = far-alone keys now.near.items now.floor far now.complete inv.queue inv.none_near inv.complete in
    let stale : key_at keys x.node ≢ Some x.key.0 =
    λ has. let e : false ≡ true = c.if-counts.ensures.1 has in cc in
    let left = popped-stale keys now.floor far rest x q c.in-Some.ensures.permutation c.in-Some.ensures.heap_order
    stale in
    let P : List ℕ → Type 0 = λ stack. AreQueued keys stack now.floor rest true in
    let Q : Bool → Type 0 = λ all. AreQueued keys now.near.items now.floor rest all in
    record {
      queue = subst Q (sym inv.complete) (subst P (sym inv.none_near) left);
      none_near = inv.none_near;
      complete = inv.complete;
    }
