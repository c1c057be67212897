use Rattle.vs_tree.specs.Search.{state}
use Rattle.mdvsp.proofs.NoneHeld.{none_held}
use Rattle.mdvsp.proofs.crew.Crew.search.Goals as goal

pub returns-in-Ok-clause-none_held : goal.returns-in-Ok-clause-none_held
returns-in-Ok-clause-none_held g c = none_held (state c.in-Ok.tree) c.in-Ok.ensures.goes_on.none_held

-- where no limit is given, the gate may not stop the search
pub returns-in-Ok-clause-over : goal.returns-in-Ok-clause-over
returns-in-Ok-clause-over g c = λ unlimited. c.in-Ok.ensures.over (λ limited. limited unlimited)
