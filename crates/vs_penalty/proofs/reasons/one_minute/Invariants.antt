use Rattle.std.proofs.Common.{◌≡◌, length}
use Rattle.vs_multi.specs.Multipliers.{AreMultipliers}
use Rattle.vs_penalty.proofs.reasons.one_minute.Given as goal

-- there is a multiplier and a count for each trip
abbrev pub invariant-loop : goal.invariant-loop
invariant-loop g l = record {
  multipliers : AreMultipliers l.case.instance.now l.multipliers.items;
  counts : length l.counts.items ≡ length l.case.instance.now.trips;
}
