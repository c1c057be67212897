use Rattle.vs_types.proofs.Members.{Has-with}
use Rattle.vs_types.proofs.layer_set.LayerSet.with.Goals as goal

pub returns : goal.returns
returns c = λ k. Has-with c.args.self.0 c.args.l.0 k c.requires
