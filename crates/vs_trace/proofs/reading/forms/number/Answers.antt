use Rattle.std.proofs.Common.{arith, pos}
use Rattle.std.proofs.lemmas.Int.{ints}
use Rattle.vs_trace.proofs.reading.forms.number.Goals as goal

pub returns-in_err-number-clause-none : goal.returns-in_err-number-clause-none
returns-in_err-number-clause-none c =
    rw c.from_residual.ensures
    (λ n low high e. c.in_err-number.ensures.none (pos n) (omega (arith, ints), omega (arith, ints)) e)
