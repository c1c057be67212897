use Rattle.std.proofs.Common.{◌<◌, ◌∙◌, ℕ, length, arith, sym, subst, pos}
use Rattle.std.proofs.lemmas.List.{length-set}
use Rattle.vs_instance.specs.Lagrangian.{IsStart, multiplier_of}
use Rattle.vs_multi.specs.Multipliers.{IsMultiplier}
use Rattle.vs_multi.proofs.OwnBlocks.{start_is, start_value, start_within}
use Rattle.vs_multi.proofs.Places.{all_within}
use Rattle.vs_types.proofs.CallerLemmas.{place_filled}
use Rattle.vs_multi.proofs.starting.start.Goals as goal

pub loop-i-preserved : goal.loop-i-preserved
loop-i-preserved c =
    let p = c.args.instance.now in
    let i = c.loop-i.i in
    let inv = c.loop-i.invariant in
    let inside : i < length c.loop-i.multipliers =
    omega (arith, inv.size, c.trips-i-end.ensures.count, c.loop-i-test.true) in
    let least = c.least_own_cost.ensures in
    let value = start_value (length p.trips) c.least_own_cost.result c.unwrap_or-least.result
    c.unwrap_or-least.ensures least.limits in
    let here = subst (IsStart p (record { 0 = i })) (sym value)
    (start_is p (record { 0 = i }) c.least_own_cost.result least.value) in
    record {
      size = length-set c.loop-i.multipliers i _ ∙ inv.size;
      within = place_filled (pos 0) (λ k m. IsMultiplier (length p.trips) m) c.loop-i.multipliers i _ inside inv.within
          (subst (IsMultiplier (length p.trips)) (sym value)
          (start_within (length p.trips) c.least_own_cost.result least.limits));
      done = λ j below. place_filled (pos 0) (λ k m. IsStart p (record { 0 = k }) m) c.loop-i.multipliers i _ inside
          (λ k less. inv.done (record { 0 = k }) less) here j.0 below;
    }

pub returns-clause-within : goal.returns-clause-within
returns-clause-within c = record {
  each_trip = c.loop-i.invariant.size;
  within = all_within c.loop-i.multipliers
      (λ j inside. subst (λ (n : ℕ). IsMultiplier n (multiplier_of c.loop-i.multipliers j))
      (sym c.loop-i.invariant.size) (c.loop-i.invariant.within j
      (omega (arith, c.loop-i.invariant.size, c.loop-i-test.false, c.trips-i-end.ensures.count))));
}
