use Rattle.std.proofs.Common.{arith}
use Rattle.vs_tree.proofs.search.Facts.{tables_are, within_budget}
use Rattle.vs_tree.proofs.tree.Tree.tables.Goals as goal

pub overflow_cast-result : goal.overflow_cast-result
overflow_cast-result c =
    let are = tables_are _ _ c.self.invariant in
    let few = within_budget _ _ c.self.invariant in
    omega (arith, are, few, c.self.invariant.few_leaves, c.tables.ensures)
