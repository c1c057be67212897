use Rattle.vs_resume.proofs.WidenedTables.{widened_holds}
use Rattle.vs_resume.proofs.part_laws.widened_tables_hold.Goals as goal

pub returns : goal.returns
returns c = λ p sets old new is restricts widened fits holds. widened_holds p sets old new restricts widened fits holds
