use Rattle.vs_node.proofs.searches.Begun.{begun_of}
use Rattle.vs_node.proofs.working.begin.Goals as goal

pub returns-clause-begun : goal.returns-clause-begun
returns-clause-begun g c =
    begun_of c.args.instance.now c.args.sets.now c.start.new.multipliers c.start.ensures.start c.one_round.result
    c.one_round.ensures.lagrangian
