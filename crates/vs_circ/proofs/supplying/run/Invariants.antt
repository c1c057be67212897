use Rattle.std.proofs.Common.{◌≡◌, ℕ, ◌<◌, get_or}
use Rattle.vs_match.specs.LayerGraph.{kind_of}
use Rattle.vs_circ.specs.PricedFlows.{must_on}
use Rattle.vs_circ.proofs.supplying.run.Given as goal

-- those of the arcs so far are set
abbrev pub invariant-loop-k : goal.invariant-loop-k
invariant-loop-k l = (j : ℕ) → j < l.k → get_or l.units j 0 ≡ must_on l.must (kind_of l.net j)
