use Rattle.vs_instance.proofs.costs.Links.{rests_connect}
use Rattle.vs_instance.proofs.laws.who_rests_connects.Goals as goal

pub returns : goal.returns
returns c = rests_connect
