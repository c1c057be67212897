-- Nothing ends a round that no watch is asked about.
use Rattle.std.proofs.lemmas.Bool.{true_from_ne_false}
use Rattle.vs_multi.proofs.round.Round.run.Goals as goal

pub returns-clause-lagrangian : goal.returns-clause-lagrangian
returns-clause-lagrangian c =
    c.in_ok-run_unless_over.ensures.lagrangian (true_from_ne_false _ c.in_ok-run_unless_over.ensures.ended)

pub returns-clause-ran : goal.returns-clause-ran
returns-clause-ran c =
    c.in_ok-run_unless_over.ensures.ran (true_from_ne_false _ c.in_ok-run_unless_over.ensures.ended)

pub returns-clause-few : goal.returns-clause-few
returns-clause-few c =
    c.in_ok-run_unless_over.ensures.few (true_from_ne_false _ c.in_ok-run_unless_over.ensures.ended)
