use Rattle.std.proofs.Common.{◌≡◌, ◌∙◌, ℕ, ℤ, Option, None, MatchOption, arith, length, subst, sym, to_z, of_z, w64}
use Rattle.std.proofs.lemmas.Int.{ints}
use Rattle.vs_types.specs.LayerSet.{Has}
use Rattle.vs_types.proofs.CallerLemmas.{place_filled}
use Rattle.vs_instance.specs.Lagrangian.{multiplier_of}
use Rattle.vs_instance.specs.Restriction.{set_of}
use Rattle.vs_walk.specs.Penalties.{IsBid}
use Rattle.vs_walk.proofs.penalties.offer_all.Goals as goal

pub loop-i-preserved : goal.loop-i-preserved
loop-i-preserved c =
    let sets = c.args.case.now.sets.now in
    let multipliers = c.args.multipliers.now in
    let runs = c.args.runs.now in
    let i = c.loop-i.i in
    let IsOffer : ℕ → ℤ → ℕ → Option ℤ → Type 0 =
    λ trips m j o. MatchOption o (¬ (Has (set_of sets j) c.args.l.0))
    (IsBid trips (set_of sets j) c.args.l.0 m c.args.rate (set_of runs j)) in
    let within = c.requires.multipliers.within i in
    let read : to_z w64 (of_z w64 (multiplier_of multipliers i)) ≡ multiplier_of multipliers i =
    omega (arith, ints, within.0, within.1) in
    let trips : c.trips-trips.result ≡ length sets =
    c.trips-trips.ensures.count ∙ sym c.requires.restriction.each_trip in
    place_filled None (λ j o. IsOffer (length sets) (multiplier_of multipliers j) j o) c.loop-i.offers i c.bid.result
    (omega (arith, c.loop-i-test.true, c.loop-i.auto.offers)) c.loop-i.invariant
    (subst (λ (n : ℕ). IsOffer n (multiplier_of multipliers i) i c.bid.result) trips
    (subst (λ (z : ℤ). IsOffer c.trips-trips.result z i c.bid.result) read c.bid.ensures))
