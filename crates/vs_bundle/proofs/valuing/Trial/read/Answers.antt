use Rattle.std.proofs.Common.{refl}
use Rattle.vs_bundle.proofs.Parts.{may_run}
use Rattle.vs_bundle.proofs.valuing.Trial.read.Goals as goal

pub read_run-cost-requires-clause-of_layer : goal.read_run-cost-requires-clause-of_layer
read_run-cost-requires-clause-of_layer c =
    may_run c.args.case.now.nets.now c.args.self.now.offers.items c.requires.offered c.args.l c.requires.layer _ _ refl
    c.index.result.now c.index.ensures _ c.deref.ensures.value
