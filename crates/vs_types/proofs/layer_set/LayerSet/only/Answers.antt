use Rattle.vs_types.proofs.Members.{Has-only}
use Rattle.vs_types.proofs.layer_set.LayerSet.only.Goals as goal

pub returns : goal.returns
returns c = λ k. Has-only c.args.l.0 k c.requires
