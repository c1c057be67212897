use Rattle.std.proofs.Common.{arith}
use Rattle.vs_tree.proofs.tree.Tree.workers.Goals as goal

pub overflow_cast-result : goal.overflow_cast-result
overflow_cast-result c = omega (arith, c.len.ensures, c.self.invariant.few_workers)
