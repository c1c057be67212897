use Rattle.std.proofs.Common.{List, Option, ℤ, sym, subst}
use Rattle.vs_circ.specs.Offers.{AreOffers}
use Rattle.test_engine.proofs.circulations.run_at.Goals as goal

pub runs-requires-clause-of_layer : goal.runs-requires-clause-of_layer
runs-requires-clause-of_layer c = (
  c.args.instance.now,
  c.offers_of.ensures.instance,
  c.requires.lawful,
  subst (λ (os : List (Option ℤ)). AreOffers c.args.instance.now 0 os) (sym c.deref.ensures.value)
      c.in_ok-offers.ensures.offers,
)
