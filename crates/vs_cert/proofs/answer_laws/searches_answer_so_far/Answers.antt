use Rattle.vs_cert.proofs.StateAnswers.{searches_answer_so_far}
use Rattle.vs_cert.proofs.answer_laws.searches_answer_so_far.Goals as goal

pub returns : goal.returns
returns c = searches_answer_so_far
