use Rattle.std.proofs.Common.{ℕ, List, sym, ap, ◌∙◌, subst}
use Rattle.vs_tree.specs.History.{IsAmong, Opening}
use Rattle.test_crew.proofs.Searches.{none-gone}
use Rattle.test_crew.proofs.trees.both_told.Goals as goal

pub answer-requires-clause-stays : goal.answer-requires-clause-stays
answer-requires-clause-stays c =
    subst (λ (gone : List ℕ). ¬ (IsAmong 0 gone)) (sym c.requires.none_gone) (none-gone 0)

pub told_to_other-requires : goal.told_to_other-requires
told_to_other-requires c =
    record {
      workers = ap (λ (o : Opening). o.workers) c.in_ok-first.ensures.opening ∙ c.requires.workers;
      none_gone = c.in_ok-first.ensures.gone ∙ c.requires.none_gone;
    }
