use Rattle.std.proofs.Common.{◌<◌, ◌≤◌, sym, subst, arith}
use Rattle.std.proofs.lemmas.Grind.{common_steps}
use Rattle.std.proofs.lemmas.List.{get_or_default}
use Rattle.vs_instance.specs.declared.trip.Trip.{Trip}
use Rattle.vs_messages.proofs.ray.common_minute.Goals as goal

pub loop-i-preserved : goal.loop-i-preserved
loop-i-preserved c = record {
  starts = λ k d below. grind (arith, common_steps, get_or_default, c.loop-i.invariant.starts k d);
  ends = λ k d below. grind (arith, common_steps, get_or_default, c.loop-i.invariant.ends k d);
  no_other = λ minute within all.
      let before = c.loop-i.invariant.no_other minute within (λ k d below. all k d (omega arith)) in
      let here : (c.trip-trip.result.now.start ≤ minute) × (minute < c.trip-trip.result.now.end) =
      subst (λ (trip : Trip). (trip.start ≤ minute) × (minute < trip.end)) (sym c.trip-trip.ensures)
      (all c.loop-i.i-index _ (omega arith)) in (
        omega (arith, before.0, here.0, c.max-latest_start.ensures),
        omega (arith, before.1, here.1, c.min-earliest_end.ensures),
      );
}
