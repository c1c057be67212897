use Rattle.std.proofs.Common.{refl}
use Rattle.vs_rows.specs.DocumentRows.{CostRow}
use Rattle.vs_document.specs.DocumentRefusals.{documents}
use Rattle.vs_document.specs.Places.{AtCost, AtBound}
use Rattle.vs_document.specs.Reading.{IsRefusedAt}
use Rattle.vs_rows.proofs.CallerLemmas.{err_passes, reads_one}
use Rattle.vs_document.proofs.reading.head.read_cost.Goals as goal
use Rattle.vs_document.proofs.reading.head.read_cost.Goals.{in-Cost, in_default}

pub returns-in_err-said-clause-refused : goal.returns-in_err-said-clause-refused
returns-in_err-said-clause-refused c =
    err_passes _ (IsRefusedAt c.args.input.now 1 AtCost) c.from_residual.ensures.1
    (c.in_err-said.ensures.refused AtCost (λ e. cc))

pub returns-clause-found : goal.returns-clause-found
returns-clause-found c = elim c.match-said.branch [
  | in-Cost w ↦
      let says = rw w.in-Cost.is at c.in_ok-said.ensures.says in
      rw w.result-is
      (reads_one documents c.args.input.now 1 c.in_ok-said.ensures.within AtCost (CostRow w.in-Cost.cost) says
      (AtBound w.in-Cost.cost) (record { suits = tt; order = refl; right = (tt, tt) }))
  | in_default w ↦ rw w.result-is tt
]
