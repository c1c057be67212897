use Rattle.mdvsp.proofs.once.SearchesAgree.{one_instance}
use Rattle.mdvsp.proofs.laws.one_input_has_one_instance.Goals as goal

pub returns : goal.returns
returns c = one_instance
