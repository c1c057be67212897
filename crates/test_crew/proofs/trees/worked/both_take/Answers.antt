use Rattle.std.proofs.Common.{◌≡◌, ap, ◌∙◌, sym, None, rules}
use Rattle.vs_tree.specs.History.{prices_at, sets_at}
use Rattle.vs_tree.specs.Search.{Search, state}
use Rattle.vs_tree.specs.declared.calls.Take.TheVariants.{Node}
use Rattle.test_crew.proofs.LeavesTaken.{lower_taken, told, took}
use Rattle.test_crew.proofs.trees.worked.both_take.Goals as goal

pub returns-clause-right : goal.returns-clause-right
returns-clause-right c =
    let before = lower_taken c.args.instance.now c.in_ok-tree.ensures.tree.0 in
    let begins = c.in_ok-tree.ensures.tree.1 in
    let right : c.in_ok-upper.upper.take ≡ Node 2 None = search rules in
    let then = took c.in_ok-tree.tree c.ask.new.tree before 1 2 c.in_ok-upper.upper.take None begins
    c.in_ok-upper.ensures.search right in
    let is = told c.in_ok-tree.tree before 2 c.in_ok-upper.upper.sets.items c.in_ok-upper.upper.table
    c.in_ok-upper.upper.take None begins right c.in_ok-upper.ensures.answer in (
      is.0 ∙ sym (ap (λ (s : Search). sets_at (state s) 2) then),
      is.1 ∙ sym (ap (λ (s : Search). prices_at (state s) 2) then),
    )
