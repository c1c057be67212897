use Rattle.std.proofs.Common.{◌≡◌, ℕ, ◌<◌, length, IfSome}
use Rattle.vs_types.specs.LayerSet.{Has}
use Rattle.vs_circ.specs.Offers.{offer_of}
use Rattle.vs_instance.specs.Restriction.{set_of}
use Rattle.vs_multi.specs.Multipliers.{IsMultiplier}
use Rattle.vs_walk.proofs.penalties.offer_given.Given as goal

-- the trips so far are offered, or may not be
abbrev pub invariant-loop-i : goal.invariant-loop-i
invariant-loop-i l = record {
  size : length l.offers ≡ length l.case.instance.now.trips;
  done : (j : ℕ) → j < l.i
      → IfSome (offer_of l.offers j)
      (λ o. IsMultiplier (length l.case.instance.now.trips) o × Has (set_of l.case.sets.now j) l.l.0);
}
