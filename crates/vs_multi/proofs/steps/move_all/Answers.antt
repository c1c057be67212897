use Rattle.std.proofs.Common.{◌≡◌, ◌∙◌, ◌≢◌, ℕ, ℤ, ap, arith, get_or, length, ◌*◌, ◌+ℤ◌, ◌-ℤ◌, pos, subst, sym, to_z, of_z, w64, get_or-set_other}
use Rattle.std.proofs.lemmas.Int.{ints}
use Rattle.std.proofs.lemmas.List.{length-set}
use Rattle.vs_types.proofs.CallerLemmas.{place_filled}
use Rattle.vs_instance.specs.Dearest.{most_multiplier}
use Rattle.vs_instance.specs.Lagrangian.{multiplier_of}
use Rattle.vs_multi.specs.Multipliers.{IsMultiplier}
use Rattle.vs_multi.specs.Steps.{moved}
use Rattle.vs_multi.proofs.Places.{all_within, limited_within}
use Rattle.vs_multi.proofs.steps.move_all.Goals as goal

pub loop-i-preserved : goal.loop-i-preserved
loop-i-preserved c =
    let inv = c.loop-i.invariant in
    let i = c.loop-i.i in
    let now = c.loop-i.multipliers in
    let old = c.args.multipliers.now in
    let trips = length old in
    let here = c.moved.ensures in
    let within = c.requires.within i in
    let rest = inv.rest i (omega arith) in
    let put : to_z w64 (of_z w64 c.moved.result) ≡ c.moved.result =
    omega (arith, ints, c.moved.type_inv) in
    let read : to_z w64 (of_z w64 (get_or now i (pos 0))) ≡ multiplier_of old i =
    omega (arith, ints, within.0, within.1, rest) in
    record {
      each_trip = length-set now i _ ∙ inv.each_trip;
      done = place_filled (pos 0)
          (λ j m. m
          ≡ moved (pos (most_multiplier trips)) (multiplier_of old j) c.args.step (get_or c.args.covers.now j 0))
          now i _ (omega (arith, c.loop-i-test.true, inv.each_trip)) inv.done
          (put ∙ here
          ∙ ap (λ (z : ℤ). moved (pos (most_multiplier trips)) z c.args.step (get_or c.args.covers.now i 0)) read);
      rest = λ j more.
          let apart : j ≢ i = λ same. omega arith in
          get_or-set_other now i j _ (pos 0) apart ∙ inv.rest j (omega arith);
    }

pub returns-clause-within : goal.returns-clause-within
returns-clause-within c =
    let new = c.loop-i.multipliers in
    let old = c.args.multipliers.now in
    let trips = length old in
    let inv = c.loop-i.invariant in
    all_within new (λ j inside.
    subst (λ (n : ℕ). IsMultiplier n (multiplier_of new j)) (sym inv.each_trip)
    (subst (IsMultiplier trips) (sym (inv.done j (omega (arith, inside, c.loop-i-test.false, inv.each_trip))))
    (limited_within trips
    ((multiplier_of old j +ℤ pos c.args.step) -ℤ pos (c.args.step * get_or c.args.covers.now j 0)))))
