use Rattle.std.proofs.Common.{◌≡◌, ◌∙◌, arith, subst, None, ℤ, to_z, of_z, w64}
use Rattle.std.proofs.lemmas.Int.{ints}
use Rattle.std.proofs.lemmas.List.{length-set}
use Rattle.vs_instance.specs.Lagrangian.{multiplier_of}
use Rattle.vs_instance.specs.Restriction.{set_of}
use Rattle.vs_multi.specs.Offers.{AreOffersTo, IsOfferFor}
use Rattle.vs_multi.proofs.OfferedBlocks.{are_offers}
use Rattle.vs_types.proofs.CallerLemmas.{place_filled}
use Rattle.vs_multi.proofs.offering.offer.Goals as goal

pub loop-i-preserved : goal.loop-i-preserved
loop-i-preserved c =
    let m = multiplier_of c.args.multipliers.now c.loop-i.i in
    let within = c.requires.multipliers.within c.loop-i.i in
    let value : to_z w64 (of_z w64 m) ≡ m = omega (arith, ints, within.0, within.1) in
    record {
      size = length-set c.loop-i.offers c.loop-i.i c.offer_for.result ∙ c.loop-i.invariant.size;
      done = place_filled None
          (λ j o. IsOfferFor (set_of c.args.sets.now j) (multiplier_of c.args.multipliers.now j) c.args.l.0 o)
          c.loop-i.offers c.loop-i.i c.offer_for.result
          (omega (arith, c.loop-i.invariant.size, c.loop-i-test.true, c.trips-i-end.ensures.count))
          c.loop-i.invariant.done
          (subst (λ (n : ℤ). IsOfferFor (set_of c.args.sets.now c.loop-i.i) n c.args.l.0 c.offer_for.result) value
          c.offer_for.ensures);
    }

pub returns-clause-lawful : goal.returns-clause-lawful
returns-clause-lawful c =
    let p = c.args.instance.now in
    let offers = c.loop-i.offers in
    let each : AreOffersTo p c.args.sets.now c.args.multipliers.now c.args.l.0 offers =
    record {
      each_trip = c.loop-i.invariant.size;
      each = λ i inside. c.loop-i.invariant.done i
          (omega (arith, c.loop-i-test.false, c.loop-i.auto.i-end, c.trips-i-end.ensures.count));
    } in
    are_offers p c.args.sets.now c.args.multipliers.now c.args.l offers each c.requires.restriction
    c.requires.multipliers
