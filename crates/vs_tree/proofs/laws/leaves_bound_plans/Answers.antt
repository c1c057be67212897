use Rattle.vs_tree.proofs.TrueReports.{leaves_bound_plans}
use Rattle.vs_tree.proofs.laws.leaves_bound_plans.Goals as goal

pub returns : goal.returns
returns c = leaves_bound_plans
