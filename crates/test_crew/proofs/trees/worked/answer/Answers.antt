use Rattle.std.proofs.Common.{ap}
use Rattle.vs_tree.specs.Search.{Search}
use Rattle.test_crew.proofs.trees.worked.answer.Goals as goal

pub returns-clause-opening : goal.returns-clause-opening
returns-clause-opening c = ap (λ (s : Search). s.opening) c.in_ok-told.ensures.search
