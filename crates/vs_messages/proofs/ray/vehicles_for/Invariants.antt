use Rattle.std.proofs.Common.{◌≡◌, ◌*◌, ◌≤◌, map}
use Rattle.std.specs.List.{range_with_len, sum}
use Rattle.vs_instance.specs.declared.limits.TheConstants.{MAX_FLEET}
use Rattle.vs_messages.specs.Reasons.{fleet_for}
use Rattle.vs_messages.proofs.ray.vehicles_for.Given as goal

-- the vehicles of the layers below this one are counted
abbrev pub invariant-loop-l : goal.invariant-loop-l
invariant-loop-l l = record {
  value : l.vehicles ≡ sum (map (fleet_for l.instance l.trips) (range_with_len 0 l.l));
  few : l.vehicles ≤ MAX_FLEET * l.l;
}
