use Rattle.vs_prices.proofs.Sharing.{lies_in_one}
use Rattle.vs_prices.proofs.cases.leaves_share_out_plans.Goals as goal

pub returns : goal.returns
returns c = λ p sets tree blocks instance restriction good plan within.
    lies_in_one blocks p instance plan sets tree restriction good within
