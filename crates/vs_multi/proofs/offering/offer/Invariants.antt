use Rattle.std.proofs.Common.{◌≡◌, ◌<◌, ℕ, length}
use Rattle.vs_instance.specs.Lagrangian.{multiplier_of}
use Rattle.vs_instance.specs.Restriction.{set_of}
use Rattle.vs_circ.specs.Offers.{offer_of}
use Rattle.vs_multi.specs.Offers.{IsOfferFor}
use Rattle.vs_multi.proofs.offering.offer.Given as goal

-- the trips below this one have their offers
abbrev pub invariant-loop-i : goal.invariant-loop-i
invariant-loop-i l = record {
  size : length l.offers ≡ length l.instance.trips;
  done : (j : ℕ) → j < l.i → IsOfferFor (set_of l.sets j) (multiplier_of l.multipliers j) l.l.0 (offer_of l.offers j);
}
