use Rattle.std.proofs.Common.{refl, sym, ◌∙◌}
use Rattle.std.proofs.lemmas.Bool.{false≢true}
use Rattle.vs_trace.proofs.KindsOfRows.{no_begin_row}
use Rattle.vs_trace.proofs.reading.said.begin_said.Goals as goal

pub returns-in-Some-clause-says : goal.returns-in-Some-clause-says
returns-in-Some-clause-says c = λ names. (tt, c.in-Some.ensures.found names)

pub returns-then-is_end-clause-says : goal.returns-then-is_end-clause-says
returns-then-is_end-clause-says c = λ names. (tt, c.if-is_end.ensures.found refl names)

pub returns-in_err-cost-clause-none : goal.returns-in_err-cost-clause-none
returns-in_err-cost-clause-none c =
    rw c.from_residual.ensures
    (λ said is names. no_begin_row names _ (λ n ray. c.in_default.ensures.none n ray names)
    (c.if-is_end.ensures.none refl names)
    (λ budget workers. c.in_default-opening.ensures.none budget workers names)
    (λ head. false≢true (sym c.if-is_head.false ∙ c.is_head.ensures.1 head))
    (λ cost. c.in_err-cost.ensures.none cost names) said is)
