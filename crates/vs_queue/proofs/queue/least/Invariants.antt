use Rattle.vs_queue.specs.Queues.{IsLeastUpTo}
use Rattle.vs_queue.proofs.queue.least.Given as goal

abbrev pub invariant-loop-v : goal.invariant-loop-v
invariant-loop-v l = IsLeastUpTo l.table.waiting l.v l.least
