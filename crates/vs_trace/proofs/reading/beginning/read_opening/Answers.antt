use Rattle.std.proofs.Common.{refl}
use Rattle.vs_trace.specs.TraceRefusals.{traces}
use Rattle.vs_trace.specs.TraceRows.{OpeningRow}
use Rattle.vs_rows.proofs.CallerLemmas.{err_passes, reads_one}
use Rattle.vs_trace.specs.Places.{AtFirst, AtOpening}
use Rattle.vs_trace.specs.Reading.{IsRefusedAt}
use Rattle.vs_trace.proofs.reading.beginning.read_opening.Goals as goal
use Rattle.vs_trace.proofs.reading.beginning.read_opening.Goals.{in-Opening, in_default}

pub returns-in_err-said-clause-refused : goal.returns-in_err-said-clause-refused
returns-in_err-said-clause-refused c =
    err_passes _ (IsRefusedAt c.args.input.now 1 AtOpening) c.from_residual.ensures.1
    (c.in_err-said.ensures.refused AtOpening (λ e. cc))

pub returns-clause-found : goal.returns-clause-found
returns-clause-found c = elim c.match-said.branch [
  | in-Opening w ↦
      let says = rw w.in-Opening.is at c.in_ok-said.ensures.says in
      rw w.result-is
      (record {
        form = says.0;
        reads = reads_one traces c.args.input.now 1 c.in_ok-said.ensures.within AtOpening
            (OpeningRow w.in-Opening.budget w.in-Opening.workers) says AtFirst
            (record { suits = tt; order = refl; right = (tt, tt) });
      })
  | in_default w ↦ rw w.result-is tt
]
