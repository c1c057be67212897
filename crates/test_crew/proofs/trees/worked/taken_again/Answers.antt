use Rattle.std.proofs.Common.{ℕ, List, sym, ap, ◌∙◌, subst}
use Rattle.vs_tree.specs.History.{IsAmong, Opening}
use Rattle.test_crew.proofs.trees.worked.taken_again.Goals as goal

pub answer-requires-clause-workers : goal.answer-requires-clause-workers
answer-requires-clause-workers c =
    ap (λ (o : Opening). o.workers) c.in_ok-close_left.ensures.opening ∙ c.in_ok-tree.ensures.workers

pub answer-requires-clause-stays : goal.answer-requires-clause-stays
answer-requires-clause-stays c =
    subst (λ (gone : List ℕ). ¬ (IsAmong 0 gone)) (sym c.in_ok-close_left.ensures.gone) c.in_ok-tree.ensures.stays

pub close_left-requires : goal.close_left-requires
close_left-requires c =
    let made = c.in_ok-tree.ensures in
    record {
      sizes = c.requires.sizes;
      problem = made.problem;
      holds = made.holds;
      fresh = made.fresh;
      sets = made.sets;
      prices = made.prices;
    }
