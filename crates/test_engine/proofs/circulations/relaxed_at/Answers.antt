use Rattle.std.proofs.Common.{List, Option, ℤ, sym, subst}
use Rattle.vs_circ.specs.Offers.{AreOffers}
use Rattle.test_engine.proofs.circulations.relaxed_at.Goals as goal

pub relaxed-requires : goal.relaxed-requires
relaxed-requires c = record {
  of_layer = (
    c.args.instance.now,
    record { 0 = 0 },
    c.offers_of.ensures.instance,
    c.requires.lawful,
    subst (λ (os : List (Option ℤ)). AreOffers c.args.instance.now 0 os) (sym c.deref.ensures.value)
        c.in_ok-offers.ensures.offers,
  );
}
