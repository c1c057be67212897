use Rattle.std.proofs.Common.{◌≡◌, vec_len}
use Rattle.vs_check.specs.Walk.{sets_ahead}
use Rattle.vs_check.proofs.walk.Walk.leave_part.Given as goal

abbrev pub invariant-loop-change : goal.invariant-loop-change
invariant-loop-change l = sets_ahead l.self ≡ sets_ahead l.initial.self

abbrev pub decreases-loop-change : goal.decreases-loop-change
decreases-loop-change l = vec_len l.self.ahead
