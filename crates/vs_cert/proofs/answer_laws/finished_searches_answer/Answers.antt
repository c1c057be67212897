use Rattle.vs_cert.proofs.StateAnswers.{finished_searches_answer}
use Rattle.vs_cert.proofs.answer_laws.finished_searches_answer.Goals as goal

pub returns : goal.returns
returns c = finished_searches_answer
