use Rattle.vs_prices.proofs.Duality.{bounds_plans}
use Rattle.vs_prices.proofs.table_worth.prices_bound_plans.Goals as goal

pub returns : goal.returns
returns c = bounds_plans
