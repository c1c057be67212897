use Rattle.std.proofs.Common.{◌≡◌, false, take}
use Rattle.vs_messages.specs.Reasons.{may_run_some}
use Rattle.vs_messages.proofs.ray.may_run_some.Given as goal

-- the layer may run none of the trips so far
abbrev pub invariant-loop-i : goal.invariant-loop-i
invariant-loop-i l = may_run_some l.instance (take l.i-index l.trips) l.l.0 ≡ false
