use Rattle.std.proofs.Common.{arith, pos, ap, get_or, ◌∙◌, []}
use Rattle.std.proofs.lemmas.Int.{ints}
use Rattle.vs_reader.specs.Rows.{Row}
use Rattle.vs_rows.proofs.forms.nodes.Goals as goal

pub returns-in_err-nodes-clause-none : goal.returns-in_err-nodes-clause-none
returns-in_err-nodes-clause-none c =
    rw c.from_residual.ensures
    (λ n names says. let few = says.form in
    c.in_err-nodes.ensures.none (pos n) (omega (arith, ints), omega (arith, ints))
    (c.field.ensures ∙ ap (λ (r : Row). get_or r 1 []) says.written))
