use Rattle.mdvsp.proofs.SearchAnswers.{solve_answers_are_stopped_answers}
use Rattle.mdvsp.proofs.laws.solve_answers_are_stopped_answers.Goals as goal

pub returns : goal.returns
returns c = solve_answers_are_stopped_answers
