use Rattle.std.proofs.Common.{◌≡◌, ◌*◌, ◌≤◌, take}
use Rattle.std.specs.Prelude.{nat_abs, sum_by}
use Rattle.vs_multi.specs.declared.steps.TheConstants.{MOST}
use Rattle.vs_multi.proofs.steps.total.Given as goal

-- what those so far come to
abbrev pub invariant-loop-multiplier : goal.invariant-loop-multiplier
invariant-loop-multiplier l = record {
  value : l.sum ≡ sum_by nat_abs (take l.multiplier-index l.multipliers);
  few : l.sum ≤ MOST * l.multiplier-index;
}
