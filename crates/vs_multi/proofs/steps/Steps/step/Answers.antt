use Rattle.std.proofs.Common.{ap, sym}
use Rattle.vs_multi.specs.Steps.{step_in}
use Rattle.vs_multi.specs.declared.steps.Steps.{Steps}
use Rattle.vs_multi.proofs.steps.Steps.step.Goals as goal

pub returns-in-Halving-clause-value : goal.returns-in-Halving-clause-value
returns-in-Halving-clause-value c = sym (ap (λ (steps : Steps). step_in steps c.args.most c.args.r) c.in-Halving.is)
