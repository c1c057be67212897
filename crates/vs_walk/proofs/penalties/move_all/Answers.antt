use Rattle.std.proofs.Common.{◌≡◌, ◌∙◌, ◌≢◌, ℕ, ℤ, ap, arith, get_or, length, pos, sym, to_z, of_z, w64, get_or-set_other}
use Rattle.std.proofs.lemmas.Int.{clamps, ints}
use Rattle.std.proofs.lemmas.List.{length-set}
use Rattle.vs_types.specs.LayerSet.{members}
use Rattle.vs_instance.specs.Dearest.{most_multiplier}
use Rattle.vs_instance.specs.Lagrangian.{multiplier_of}
use Rattle.vs_instance.specs.Restriction.{set_of}
use Rattle.vs_instance.proofs.CallerLemmas.{multiplier-most}
use Rattle.vs_multi.specs.Multipliers.{IsMultiplier}
use Rattle.vs_multi.specs.Steps.{moved}
use Rattle.vs_multi.proofs.CallerLemmas.{within-set}
use Rattle.vs_walk.proofs.FewLayers.{few_layers}
use Rattle.vs_types.proofs.CallerLemmas.{place_filled}
use Rattle.vs_walk.proofs.penalties.move_all.Goals as goal

pub moved-requires-clause-covers : goal.moved-requires-clause-covers
moved-requires-clause-covers c = few_layers _ _ c.count-layers.ensures

pub loop-i-preserved : goal.loop-i-preserved
loop-i-preserved c =
    let inv = c.loop-i.invariant in
    let i = c.loop-i.i in
    let now = c.loop-i.multipliers in
    let old = c.args.multipliers.now in
    let rate = c.args.rate in
    let here = c.moved.ensures in
    let count : length now ≡ c.args.trips = inv.each_trip ∙ c.requires.trips in
    let is : IsMultiplier c.args.trips c.moved.result = (
      omega (arith, ints, clamps, here),
      omega (arith, ints, clamps, here, multiplier-most c.args.trips),
      omega (arith, ints, clamps, here),
    ) in
    let put : to_z w64 (of_z w64 c.moved.result) ≡ c.moved.result = omega (arith, ints, is.0, is.1) in
    let within = inv.within i in
    let read : to_z w64 (of_z w64 (get_or now i (pos 0))) ≡ multiplier_of old i =
    omega (arith, ints, within.0, within.1, inv.rest i (omega arith)) in
    record {
      within = within-set c.args.trips now i c.moved.result count inv.within is;
      each_trip = length-set now i _ ∙ inv.each_trip;
      done = place_filled (pos 0)
          (λ j m. m ≡ moved (pos (most_multiplier (length old))) (multiplier_of old j) rate
          (length (members (set_of c.args.runs.now j))))
          now i _ (omega (arith, c.loop-i-test.true, inv.each_trip, c.requires.runs)) inv.done
          (put ∙ here ∙ ap (λ (z : ℤ). moved (pos (most_multiplier c.args.trips)) z rate c.count-layers.result) read
          ∙ ap (λ (n : ℕ). moved (pos (most_multiplier c.args.trips)) (multiplier_of old i) rate n)
          c.count-layers.ensures
          ∙ ap (λ (n : ℕ). moved (pos (most_multiplier n)) (multiplier_of old i) rate
          (length (members (set_of c.args.runs.now i)))) (sym c.requires.trips));
      rest = λ j more.
          let apart : j ≢ i = λ same. omega arith in
          get_or-set_other now i j _ (pos 0) apart ∙ inv.rest j (omega arith);
    }
