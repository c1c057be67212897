use Rattle.vs_match.proofs.composition.Aggregating.{same_least}
use Rattle.vs_match.proofs.laws.nets_cost_what_blocks_do.Goals as goal

pub returns : goal.returns
returns c = λ p l n chosen cost inst lawful. same_least p inst l n lawful chosen cost
