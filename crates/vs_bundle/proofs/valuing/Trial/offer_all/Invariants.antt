use Rattle.std.proofs.Common.{ℕ, ◌<◌, Option, Vec, ℤ, get_or}
use Rattle.std.specs.Global.{Global}
use Rattle.vs_circ.specs.Offers.{AreOffers}
use Rattle.vs_bundle.specs.Climbs.{IsTrialFor}
use Rattle.vs_bundle.proofs.valuing.Trial.offer_all.Given as goal

-- the layers so far have their offers
abbrev pub invariant-loop-l : goal.invariant-loop-l
invariant-loop-l l = record {
  trial : IsTrialFor l.case.instance.now l.self;
  offered : (k : ℕ) (d : Vec (Option ℤ) Global) → k < l.l
      → AreOffers l.case.instance.now k (get_or l.self.offers.items k d).items;
}
