use Rattle.vs_penalty.proofs.ShownPlans.{shown_plan}
use Rattle.vs_penalty.proofs.choices.least_plan.Goals as goal

pub returns : goal.returns
returns c =
    shown_plan c.args.case.now.instance.now c.args.chosen.now c.in_ok-settled.settled.table
    c.in_ok-settled.settled.plan
    c.in_ok-settled.ensures.shows
