use Rattle.test_resume.proofs.HandedIn.{between, may_finish, one_more}
use Rattle.test_resume.proofs.searching.hand_in.Goals as goal

pub finish-requires : goal.finish-requires
finish-requires c =
    let own = c.instance-instance.ensures in
    may_finish c.args.tree.now c.offer.new.tree c.args.leaf c.args.outcome own.opening own.history c.requires
    c.offer.ensures

pub returns-clause-finished : goal.returns-clause-finished
returns-clause-finished c =
    let own = c.instance-instance.ensures in
    one_more c.args.tree.now c.offer.new.tree c.args.leaf c.args.outcome own.opening own.history c.requires
    c.offer.ensures c.finish.new.self c.finish.ensures

pub returns-clause-between : goal.returns-clause-between
returns-clause-between c =
    let own = c.instance-instance.ensures in
    between c.args.tree.now c.offer.new.tree c.args.leaf c.args.outcome own.opening own.history c.requires
    c.offer.ensures c.finish.new.self c.finish.ensures
