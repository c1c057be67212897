use Rattle.mdvsp.proofs.once.SearchesAgree.{bounds_never_pass_costs}
use Rattle.mdvsp.proofs.laws.bounds_never_pass_costs.Goals as goal

pub returns : goal.returns
returns c = bounds_never_pass_costs
