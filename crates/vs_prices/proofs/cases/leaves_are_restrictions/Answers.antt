use Rattle.vs_prices.proofs.Restrictions.{leaves_restrict}
use Rattle.vs_prices.proofs.cases.leaves_are_restrictions.Goals as goal

pub returns : goal.returns
returns c = λ p sets tree instance restriction good. leaves_restrict p sets tree restriction good
