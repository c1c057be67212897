use Rattle.vs_instance.proofs.lagrangian.LayersOfPlan.{values_bound_plans}
use Rattle.vs_instance.proofs.laws.lagrangian_values_bound_plans.Goals as goal

pub returns : goal.returns
returns c = values_bound_plans
