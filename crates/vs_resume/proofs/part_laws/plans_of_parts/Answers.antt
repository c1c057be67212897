use Rattle.vs_resume.proofs.PartPlans.{plans_of_part}
use Rattle.vs_resume.proofs.part_laws.plans_of_parts.Goals as goal

pub returns : goal.returns
returns c = λ p sets blocks is restricts. plans_of_part p sets restricts is blocks
