use Rattle.vs_plan.proofs.Faultless.{faultless_from_none, faults_of-plan, plan_from_faultless}
use Rattle.vs_plan.proofs.laws.faultless_blocks_are_plans.Goals as goal

pub returns : goal.returns
returns c = λ p blocks are. (
  λ none. plan_from_faultless p blocks are
      (faultless_from_none p blocks none),
  faults_of-plan p blocks,
)
