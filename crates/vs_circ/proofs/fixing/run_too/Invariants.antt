use Rattle.std.proofs.Common.{ℕ, get_or}
use Rattle.vs_match.specs.LayerGraph.{kind_of}
use Rattle.vs_circ.specs.PricedFlows.{must_on}
use Rattle.vs_circ.specs.shipping.Supplied.{IsGreater}
use Rattle.vs_types.proofs.CallerLemmas.{AreSoFar}
use Rattle.vs_circ.proofs.fixing.run_too.Given as goal

abbrev pub invariant-loop-k : goal.invariant-loop-k
invariant-loop-k l =
    AreSoFar 0 (λ (k u : ℕ). IsGreater (get_or l.flow.units.items k 0) (must_on l.must (kind_of l.net k)) u)
    l.units.items l.k
