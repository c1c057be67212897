use Rattle.std.proofs.Common.{◌<◌}
use Rattle.vs_walk.specs.declared.savings.TheConstants.{KINDS}
use Rattle.vs_walk.proofs.savings.Savings.best.Given as goal

abbrev pub invariant-loop-kind : goal.invariant-loop-kind
invariant-loop-kind l = l.best < KINDS
