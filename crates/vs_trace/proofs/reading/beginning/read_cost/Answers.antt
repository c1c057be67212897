use Rattle.vs_trace.specs.TraceRefusals.{traces}
use Rattle.vs_trace.specs.TraceRows.{FirstRow}
use Rattle.vs_rows.proofs.CallerLemmas.{err_passes, reads_one}
use Rattle.vs_trace.specs.Places.{AtFirst}
use Rattle.vs_trace.specs.Reading.{IsRefusedAt, behind_cost}
use Rattle.vs_trace.proofs.PartReading.{first_order}
use Rattle.vs_trace.proofs.reading.beginning.read_cost.Goals as goal
use Rattle.vs_trace.proofs.reading.beginning.read_cost.Goals.{in-First, in_default}

pub returns-in_err-said-clause-refused : goal.returns-in_err-said-clause-refused
returns-in_err-said-clause-refused c =
    err_passes _ (IsRefusedAt c.args.input.now 2 AtFirst) c.from_residual.ensures.1
    (c.in_err-said.ensures.refused AtFirst (λ e. cc))

pub returns-clause-found : goal.returns-clause-found
returns-clause-found c = elim c.match-said.branch [
  | in-First w ↦
      let says = rw w.in-First.is at c.in_ok-said.ensures.says in
      rw w.result-is
      (reads_one traces c.args.input.now 2 c.in_ok-said.ensures.within AtFirst (FirstRow w.in-First.cost) says
      (behind_cost w.in-First.cost)
      (record { suits = tt; order = first_order c.args.input.now.instance w.in-First.cost; right = (tt, tt) }))
  | in_default w ↦ rw w.result-is tt
]
