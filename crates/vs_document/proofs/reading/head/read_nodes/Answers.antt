use Rattle.std.proofs.Common.{refl, ℤ, Option}
use Rattle.vs_rows.specs.DocumentRows.{NodesRow}
use Rattle.vs_document.specs.DocumentRefusals.{documents}
use Rattle.vs_document.specs.Places.{AtNodes, AtBlocks}
use Rattle.vs_document.specs.Reading.{IsRefusedAt}
use Rattle.vs_rows.proofs.CallerLemmas.{err_passes, reads_one}
use Rattle.vs_document.proofs.reading.head.read_nodes.Goals as goal
use Rattle.vs_document.proofs.reading.head.read_nodes.Goals.{in-Nodes, in_default}

pub returns-in_err-said-clause-refused : goal.returns-in_err-said-clause-refused
returns-in_err-said-clause-refused c =
    err_passes _ (λ e. (cost : Option ℤ) → IsRefusedAt c.args.input.now 3 (AtNodes cost) e)
    c.from_residual.ensures.1 (λ cost. c.in_err-said.ensures.refused (AtNodes cost) (λ e. cc))

pub returns-clause-found : goal.returns-clause-found
returns-clause-found c = elim c.match-said.branch [
  | in-Nodes w ↦
      let says = rw w.in-Nodes.is at c.in_ok-said.ensures.says in
      rw w.result-is
      (λ cost. reads_one documents c.args.input.now 3 c.in_ok-said.ensures.within (AtNodes cost)
      (NodesRow w.in-Nodes.nodes) says (AtBlocks cost) (record { suits = tt; order = refl; right = (tt, tt) }))
  | in_default w ↦ rw w.result-is tt
]
