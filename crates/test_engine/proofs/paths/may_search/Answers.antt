use Rattle.std.proofs.Common.{◌≡◌, ◌∙◌, ◌-◌, ℕ, ap, subst}
use Rattle.vs_path.specs.Residual.{ResidualNet}
use Rattle.vs_path.specs.PathTree.{HasNoNegativeCycle}
use Rattle.vs_path.specs.Distances.{without_return}
use Rattle.test_engine.proofs.paths.may_search.Goals as goal

pub returns-clause-no_negative : goal.returns-clause-no_negative
returns-clause-no_negative c = λ yes.
    let net = c.args.net.now in
    let flow = c.args.flow.now in
    let costs = c.args.costs.now in
    let of_arcs : ℕ → ResidualNet = λ n. record {
      graph = net;
      units = flow.units.items;
      cost = costs.cost.items;
      room = costs.room.items;
      arcs = n;
    } in
    let same : c.new-residual.result ≡ without_return net flow costs =
    c.new-residual.ensures ∙ ap (λ (n : ℕ). of_arcs (n - 1)) c.arcs.ensures.count in
    subst HasNoNegativeCycle same
    (c.sign_rule_leaves_no_negative_cycle.ensures c.new-residual.result c.args.prices.now
    (c.keeps_sign_rule.ensures.0 yes))
