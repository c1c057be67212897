use Rattle.std.proofs.Common.{arith}
use Rattle.vs_tree.proofs.search.Facts.{places_within}
use Rattle.vs_tree.proofs.tree.Tree.spots.Goals as goal

pub overflow_cast-result : goal.overflow_cast-result
overflow_cast-result c =
    let few = places_within _ _ c.self.invariant in
    omega (arith, few, c.self.invariant.few_leaves, c.len.ensures)
