use Rattle.std.proofs.Common.{[], ◌∷◌, refl, ap, ◌∙◌}
use Rattle.vs_instance.specs.Problem.{Problem}
use Rattle.vs_tree.specs.History.{Split, Took}
use Rattle.vs_tree.specs.Prices.{zero_prices}
use Rattle.vs_tree.specs.Search.{Search}
use Rattle.test_crew.proofs.leaves.split.Goals as goal

pub returns : goal.returns
returns c =
    let split = c.if-not-split_root.ensures.split refl in
    let begins = c.in_ok-tree.ensures in
    let opening = c.split_root.ensures.opening ∙ ap (λ (t : Search). t.opening) begins in
    let problem = ap (λ (t : Search). t.opening.problem) begins in
    let steps = split.1 ∙ ap (λ (p : Problem). Took 0 0
    ∷ Split 0 0 1 (record { 0 = 0 }) split.0 (zero_prices p) ∷ []) problem in
    (split.0, λ i. record { opening = opening i; steps = steps i })
