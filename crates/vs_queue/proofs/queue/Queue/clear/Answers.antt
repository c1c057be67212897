use Rattle.std.proofs.Common.{◌∙◌, ℕ, replicate, ap, None}
use Rattle.vs_queue.proofs.heap.Emptying.{all-none}
use Rattle.vs_queue.proofs.queue.Queue.clear.Goals as goal

pub returns-clause-none : goal.returns-clause-none
returns-clause-none c =
    all-none c.forget.new.table.waiting c.forget.ensures.none
    ∙ ap (λ (n : ℕ). replicate n None) c.forget.ensures.size
