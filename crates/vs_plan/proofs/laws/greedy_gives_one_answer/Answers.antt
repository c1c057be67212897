use Rattle.vs_plan.proofs.GreedyOnce.{one_answer}
use Rattle.vs_plan.proofs.laws.greedy_gives_one_answer.Goals as goal

pub returns : goal.returns
returns c = one_answer
