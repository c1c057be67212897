use Rattle.vs_node.proofs.tables.Comparing.{worth_no_less-itself, worth_no_less-trans}
use Rattle.vs_node.proofs.climbing.refine.Goals as goal

pub returns-then-is_none-clause-no_less : goal.returns-then-is_none-clause-no_less
returns-then-is_none-clause-no_less g c =
    worth_no_less-itself c.args.case.now.instance.now c.args.case.now.sets.now c.args.table.now

pub returns-in_err-worth-clause-no_less : goal.returns-in_err-worth-clause-no_less
returns-in_err-worth-clause-no_less g c =
    worth_no_less-trans c.args.case.now.instance.now c.args.case.now.sets.now c.raise.new.table c.climb_on.new.table
    c.args.table.now c.raise.ensures.no_less c.climb_on.ensures.no_less

pub returns-clause-no_less : goal.returns-clause-no_less
returns-clause-no_less g c =
    worth_no_less-trans c.args.case.now.instance.now c.args.case.now.sets.now c.raise.new.table c.climb_on.new.table
    c.args.table.now c.raise.ensures.no_less c.climb_on.ensures.no_less
