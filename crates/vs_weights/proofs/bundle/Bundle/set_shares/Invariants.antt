use Rattle.vs_weights.specs.Shares.{AreParts}
use Rattle.vs_weights.proofs.bundle.Bundle.set_shares.Given as goal

abbrev pub invariant-loop-entry : goal.invariant-loop-entry
invariant-loop-entry l = AreParts l.shares
