use Rattle.vs_node.proofs.CallerLemmas.{worth_no_less-trans}
use Rattle.vs_penalty.proofs.agreeing.agree_on.Goals as goal

pub returns-in_err-improve-clause-worth : goal.returns-in_err-improve-clause-worth
returns-in_err-improve-clause-worth g c =
    let case = c.args.case.now in
    worth_no_less-trans case.instance.now case.sets.now c.improve.new.table c.take_ray.new.table c.args.table.now
    c.improve.ensures.worth c.take_ray.ensures.worth

pub returns-clause-worth : goal.returns-clause-worth
returns-clause-worth g c =
    let case = c.args.case.now in
    worth_no_less-trans case.instance.now case.sets.now c.improve.new.table c.take_ray.new.table c.args.table.now
    c.improve.ensures.worth c.take_ray.ensures.worth
