use Rattle.std.proofs.Common.{ℕ, ◌<◌}
use Rattle.vs_walk.specs.Penalties.{IsOfferIn}
use Rattle.vs_walk.proofs.penalties.offer_all.Given as goal

-- the trips so far are offered, or may not be
abbrev pub invariant-loop-i : goal.invariant-loop-i
invariant-loop-i l = (j : ℕ) → j < l.i
    → IsOfferIn l.case.sets.now l.l.0 l.multipliers l.rate l.runs l.offers j
