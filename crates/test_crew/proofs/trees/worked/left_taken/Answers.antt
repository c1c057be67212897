use Rattle.std.proofs.Common.{sym, subst}
use Rattle.vs_tree.specs.History.{IsAmong}
use Rattle.vs_tree.specs.Search.{Search, state}
use Rattle.test_crew.proofs.Searches.{none-gone}
use Rattle.test_crew.proofs.trees.worked.left_taken.Goals as goal

pub ask-requires-clause-stays : goal.ask-requires-clause-stays
ask-requires-clause-stays c =
    subst (λ (s : Search). ¬ (IsAmong 0 (state s).gone)) (sym c.in_ok-tree.ensures.1) (none-gone 0)
