use Rattle.vs_types.proofs.Members.{Has-test}
use Rattle.vs_types.proofs.layer_set.LayerSet.has.Goals as goal

pub returns : goal.returns
returns c = Has-test c.args.self.0 c.args.l.0 c.requires
