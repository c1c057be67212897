use Rattle.std.proofs.Common.{◌≤ℤ◌, ◌<◌, pos}
use Rattle.vs_queue.specs.declared.step.Step.{Step}
use Rattle.vs_path.specs.Residual.{IsOpen, arc_no, reduced}
use Rattle.vs_path.proofs.residual.Residual.keeps_sign_rule.Given as goal

abbrev pub invariant-loop-k : goal.invariant-loop-k
invariant-loop-k l = (s : Step) → IsOpen l.self s → arc_no s < l.k → pos 0 ≤ℤ reduced l.self l.prices s
