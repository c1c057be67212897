use Rattle.std.proofs.Common.{◌≡◌, length}
use Rattle.vs_replay.specs.Making.{Suits}
use Rattle.vs_replay.proofs.StepByStep.{MadeSoFar}
use Rattle.vs_replay.proofs.replaying.make_all.Given as goal

-- the steps so far are made
abbrev pub invariant-loop-step : goal.invariant-loop-step
invariant-loop-step l = record {
  can_next : (goal.iterator-loop-step).can_next l.step-iterator;
  is_finite : (goal.iterator-loop-step).is_finite l.step-iterator;
  made : l.made ≡ length l.yielded;
  so_far : MadeSoFar l.fn.tree l.tree l.fn.steps.items (length l.yielded);
  suits : Suits l.fn.instance l.ground;
}
