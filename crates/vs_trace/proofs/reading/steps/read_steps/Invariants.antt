use Rattle.std.proofs.Common.{◌-◌, length}
use Rattle.vs_trace.proofs.StepReading.{StepsSoFar}
use Rattle.vs_trace.proofs.reading.steps.read_steps.Given as goal

abbrev pub invariant-loop-row : goal.invariant-loop-row
invariant-loop-row l = StepsSoFar l.input l.at l.row l.before l.steps.items

abbrev pub decreases-loop-row : goal.decreases-loop-row
decreases-loop-row l = length l.input.rest - l.row
