use Rattle.std.proofs.Common.{ap, sym, subst}
use Rattle.vs_tree.specs.declared.calls.Next.{Next}
use Rattle.vs_tree.specs.Calls.{finishing}
use Rattle.vs_tree.specs.Finishes.{AreWorths, next_in}
use Rattle.vs_tree.specs.History.{MayCome, is_inner, sets_at}
use Rattle.vs_tree.specs.Prices.{prices_of}
use Rattle.vs_tree.specs.Search.{Search, state}
use Rattle.vs_tree.proofs.search.Finishing.{finishes_held, finishes_next, finishes_with}
use Rattle.vs_tree.proofs.tree.Tree.finish.Goals as goal

pub reckon-finish-requires-clause-leaf : goal.reckon-finish-requires-clause-leaf
reckon-finish-requires-clause-leaf c =
    let t = c.args.self.now in
    let held = finishes_held t.opening (state t) c.args.w c.args.leaf (prices_of c.args.table) c.args.next c.requires in
    ap is_inner held.1

pub reckon-finish-requires-clause-lawful : goal.reckon-finish-requires-clause-lawful
reckon-finish-requires-clause-lawful c =
    let t = c.args.self.now in
    (finishes_with t.opening (state t) c.args.w c.args.leaf (prices_of c.args.table) c.args.next c.requires).lawful

pub reckon-finish-requires-clause-next : goal.reckon-finish-requires-clause-next
reckon-finish-requires-clause-next c =
    let t = c.args.self.now in
    finishes_next t.opening (state t) c.args.w c.args.leaf (prices_of c.args.table) c.args.next c.requires

pub finish_as-requires-clause-may : goal.finish_as-requires-clause-may
finish_as-requires-clause-may c =
    let first = subst (λ (n : Next). MayCome c.args.self.now.opening (state c.args.self.now)
    (finishing (state c.args.self.now) c.args.w c.args.leaf (prices_of c.args.table) n))
    (sym c.reckon-finish.ensures.next) c.requires in
    subst (λ (t : Search). MayCome t.opening (state t)
    (finishing (state t) c.args.w c.args.leaf (prices_of c.args.table) (next_in c.reckon-finish.result)))
    (sym c.reckon-finish.ensures.search) first

pub finish_as-requires-clause-worths : goal.finish_as-requires-clause-worths
finish_as-requires-clause-worths c =
    subst (λ (t : Search). AreWorths t.opening.problem (sets_at (state t) c.args.leaf) (prices_of c.args.table)
    c.reckon-finish.result) (sym c.reckon-finish.ensures.search) c.reckon-finish.ensures.worths
