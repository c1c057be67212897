use Rattle.std.proofs.Common.{false}
use Rattle.vs_circ.specs.declared.leeways.Side.TheVariants.{Entering}
use Rattle.vs_circ.specs.node_prices.Leeways.{AreLeeways}
use Rattle.vs_circ.proofs.leeways.pass_along.Given as goal

abbrev pub invariant-loop-v : goal.invariant-loop-v
invariant-loop-v l = AreLeeways l.net false Entering l.prices l.leeways
