use Rattle.vs_cert.proofs.StateAnswers.{bounds_reach_the_start}
use Rattle.vs_cert.proofs.answer_laws.bounds_reach_the_start.Goals as goal

pub returns : goal.returns
returns c = bounds_reach_the_start
