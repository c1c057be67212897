use Rattle.std.proofs.Common.{◌≡◌, ◌∙◌, length, arith, sym, subst, ℤ, pos, to_z, of_z, w64}
use Rattle.std.proofs.lemmas.Int.{ints}
use Rattle.std.proofs.lemmas.List.{length-set}
use Rattle.vs_instance.specs.Restriction.{set_of}
use Rattle.vs_multi.specs.Multipliers.{IsMultiplier}
use Rattle.vs_multi.specs.Offers.{IsLeastElsewhere}
use Rattle.vs_types.proofs.CallerLemmas.{place_filled}
use Rattle.vs_multi.proofs.offering.multiply_elsewhere.Goals as goal

pub loop-i-preserved : goal.loop-i-preserved
loop-i-preserved c =
    let p = c.args.instance.now in
    let price = c.least_elsewhere.ensures.price in
    let within = c.least_elsewhere.ensures.within in
    let value : to_z w64 (of_z w64 c.least_elsewhere.result) ≡ c.least_elsewhere.result =
    omega (arith, ints, within.0, within.1) in
    record {
      size = length-set c.loop-i.multipliers c.loop-i.i _ ∙ c.loop-i.invariant.size;
      done = place_filled (pos 0)
          (λ j m. IsLeastElsewhere p (set_of c.args.sets.now j) c.args.table.now c.args.l.0 j m
          × IsMultiplier (length p.trips) m)
          c.loop-i.multipliers c.loop-i.i _
          (omega (arith, c.loop-i.invariant.size, c.loop-i-test.true, c.trips-i-end.ensures.count))
          c.loop-i.invariant.done
          (subst (λ (m : ℤ). IsLeastElsewhere p (set_of c.args.sets.now c.loop-i.i) c.args.table.now c.args.l.0
          c.loop-i.i m × IsMultiplier (length p.trips) m) (sym value) (price, within));
    }

pub returns-clause-prices : goal.returns-clause-prices
returns-clause-prices c i inside =
    (c.loop-i.invariant.done i (omega (arith, inside, c.loop-i-test.false, c.trips-i-end.ensures.count))).0
