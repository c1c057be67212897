use Rattle.mdvsp.proofs.once.OneAnswer.{one_answer}
use Rattle.mdvsp.proofs.laws.one_answer.Goals as goal

pub returns : goal.returns
returns c = one_answer
