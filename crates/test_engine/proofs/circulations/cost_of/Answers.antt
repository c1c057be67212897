use Rattle.std.proofs.Common.{List, Bool, sym, subst}
use Rattle.vs_circ.specs.Offers.{AreMust}
use Rattle.test_engine.proofs.circulations.cost_of.Goals as goal

pub fixed-requires : goal.fixed-requires
fixed-requires c = record {
  of_layer = (
    c.args.instance.now,
    record { 0 = 0 },
    c.must_of.ensures.instance,
    c.requires.lawful,
    subst (λ (ms : List Bool). AreMust c.args.instance.now 0 ms) (sym c.deref.ensures.value) c.in_ok-must.ensures.must,
  );
}
