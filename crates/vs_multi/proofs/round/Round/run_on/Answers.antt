use Rattle.std.proofs.Common.{ℕ, List, subst}
use Rattle.vs_multi.specs.Steps.{AreMoved}
use Rattle.vs_multi.proofs.round.Round.run_on.Goals as goal

pub returns-clause-moved : goal.returns-clause-moved
returns-clause-moved c =
    subst (λ (xs : List ℕ). AreMoved c.args.step xs c.args.multipliers.now c.move_all.new.multipliers)
    c.as_slice-covers.ensures.value c.move_all.ensures.moved
