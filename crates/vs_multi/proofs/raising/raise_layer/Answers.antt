use Rattle.vs_multi.proofs.Nets.{lawful_there}
use Rattle.vs_multi.proofs.raising.raise_layer.Goals as goal

pub circulation-found-requires-clause-lawful : goal.circulation-found-requires-clause-lawful
circulation-found-requires-clause-lawful c =
    lawful_there c.args.case.now.instance.now c.args.case.now.nets.now c.args.l.0 c.index-case-l.result
    c.requires.case.nets c.requires.layer
