use Rattle.std.proofs.Common.{rules, subst}
use Rattle.vs_plan.specs.CheckedPlan.{cost_of}
use Rattle.vs_prices.specs.Bounds.{IsBelow}
use Rattle.vs_node.proofs.deciding.next_of.Goals as goal

pub returns : goal.returns
returns c =
    let known : IsBelow c.args.worth c.args.known = c.is_below-is_wanted.ensures.0 (search rules) in
    let cost : IsBelow c.args.worth (cost_of c.args.plan.now) =
    subst (IsBelow c.args.worth) c.cost_of.ensures (c.is_below-is_cheaper.ensures.0 (search rules)) in (
      (known, cost),
      record {
        inside = c.in-Some.ensures.inside;
        choice = c.in-Some.ensures.choice;
        part = c.alone.ensures;
      },
    )
