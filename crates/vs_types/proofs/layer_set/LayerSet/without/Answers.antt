use Rattle.vs_types.proofs.Members.{Has-without}
use Rattle.std.proofs.Common.{rules}
use Rattle.vs_types.proofs.layer_set.LayerSet.without.Goals as goal

pub returns : goal.returns
returns c = λ k. Has-without c.args.self.0 c.args.l.0 k c.requires (search rules)
