use Rattle.vs_node.proofs.CallerLemmas.{worth_no_less-trans}
use Rattle.vs_penalty.proofs.agreeing.improve.Goals as goal

pub returns-in_err-raise-clause-worth : goal.returns-in_err-raise-clause-worth
returns-in_err-raise-clause-worth g c =
    let case = c.args.case.now in
    worth_no_less-trans case.instance.now case.sets.now c.raise.new.table c.take_shown.new.table c.args.table.now
    c.raise.ensures.no_less c.take_shown.ensures.no_less

pub returns-clause-worth : goal.returns-clause-worth
returns-clause-worth g c =
    let case = c.args.case.now in
    worth_no_less-trans case.instance.now case.sets.now c.raise.new.table c.take_shown.new.table c.args.table.now
    c.raise.ensures.no_less c.take_shown.ensures.no_less
