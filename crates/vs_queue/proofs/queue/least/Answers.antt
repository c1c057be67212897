use Rattle.std.proofs.Common.{ℕ, Option, ℤ, subst, arith}
use Rattle.vs_queue.specs.Queues.{IsLesser, IsLeastUpTo}
use Rattle.vs_queue.proofs.heap.Queuing.{least-more}
use Rattle.vs_queue.proofs.queue.least.Goals as goal

pub loop-v-preserved : goal.loop-v-preserved
loop-v-preserved c =
    let keys = c.args.table.now.waiting in
    let P : Option ℤ → Type 0 = λ key. IsLesser c.loop-v.least c.loop-v.v key c.lesser-least.result in
    least-more keys c.loop-v.v c.loop-v.least c.lesser-least.result c.loop-v.invariant
    (subst P c.key.ensures c.lesser-least.ensures)

pub returns : goal.returns
returns c =
    let keys = c.args.table.now.waiting in
    let P : ℕ → Type 0 = λ count. IsLeastUpTo keys count c.loop-v.least in
    subst P c.len-v-end.ensures.waiting (subst P (omega (arith, c.loop-v-test.false)) c.loop-v.invariant)
