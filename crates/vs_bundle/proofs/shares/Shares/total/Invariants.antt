use Rattle.std.proofs.Common.{◌*◌, ◌^◌, ◌≤◌}
use Rattle.vs_bundle.proofs.shares.Shares.total.Given as goal

-- each layer so far runs no more than the whole of the trip
abbrev pub invariant-loop-l : goal.invariant-loop-l
invariant-loop-l l = l.total ≤ l.l * 2 ^ 20
