use Rattle.vs_types.proofs.Members.{ones-members}
use Rattle.std.proofs.Common.{rules}
use Rattle.vs_types.proofs.layer_set.LayerSet.count.Goals as goal

pub returns : goal.returns
returns c = ones-members c.args.self (search rules)
