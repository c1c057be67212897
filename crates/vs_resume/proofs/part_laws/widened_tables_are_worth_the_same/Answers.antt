use Rattle.vs_resume.proofs.WidenedWorths.{widened_worth}
use Rattle.vs_resume.proofs.part_laws.widened_tables_are_worth_the_same.Goals as goal

pub returns : goal.returns
returns c = λ p sets inner old new worth is restricts within widened same.
    widened_worth p sets inner old new is restricts within widened worth same
