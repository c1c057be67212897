use Rattle.vs_weights.specs.Bundles.{HasSizes, layers_of, trips_of_all}
use Rattle.vs_weights.proofs.bundle.Bundle.renew_all.Given as goal

abbrev pub invariant-loop-l : goal.invariant-loop-l
invariant-loop-l l = HasSizes (trips_of_all l.fn.self) (layers_of l.fn.self) l.self
