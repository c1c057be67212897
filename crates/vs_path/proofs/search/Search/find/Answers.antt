use Rattle.vs_path.specs.Labels.{lists_of}
use Rattle.vs_path.proofs.found.Finding.{is-cut, can-move, is-goal}
use Rattle.vs_path.proofs.search.Search.find.Goals as goal

pub returns-in_err-goal-clause-found : goal.returns-in_err-goal-clause-found
returns-in_err-goal-clause-found c =
    rw c.from_residual.ensures
    (is-cut c.args.residual.now c.args.prices.now c.args.surplus.now c.args.source (lists_of c.explore-found.new.self)
    c.in_err-goal.ensures.found)

pub lower_prices-requires-clause-space : goal.lower_prices-requires-clause-space
lower_prices-requires-clause-space c = λ a is.
    can-move c.args.residual.now c.args.prices.now (lists_of c.explore-found.new.self) c.in_ok-goal.goal a
    c.requires.small c.requires.sign_rule c.in_ok-goal.ensures.found.labels is

pub returns-clause-found : goal.returns-clause-found
returns-clause-found c =
    let reached = c.in_ok-goal.ensures.found in
    is-goal c.args.residual.now c.args.prices.now c.args.surplus.now c.args.source (lists_of c.explore-found.new.self)
    c.in_ok-goal.goal c.lower_prices.new.prices c.requires.sign_rule reached
    (c.lower_prices.ensures reached.goal_is reached.settled) c.trace.new.path.items c.trace.ensures.path
    c.trace.ensures.tree
