use Rattle.std.proofs.Common.{[]}
use Rattle.vs_rows.proofs.CallerLemmas.{err_passes}
use Rattle.vs_trace.specs.Places.{InTable}
use Rattle.vs_trace.specs.Reading.{IsRefusedAt}
use Rattle.vs_trace.proofs.StepReading.{read_gave_back, read_took}
use Rattle.vs_trace.proofs.reading.steps.read_step.Goals as goal
use Rattle.vs_trace.proofs.reading.steps.read_step.Goals.{in-End, in-Took, in-GaveBack, in-Closed, in-Split, in-Offered, in_default}

pub returns-in_err-said-clause-refused : goal.returns-in_err-said-clause-refused
returns-in_err-said-clause-refused c =
    err_passes _ (IsRefusedAt c.args.input.now c.args.row (InTable c.args.before [])) c.from_residual.ensures.1
    (c.in_err-said.ensures.refused (InTable c.args.before []) (λ e. cc))

pub returns-clause-found : goal.returns-clause-found
returns-clause-found c =
    let input = c.args.input.now in
    let row = c.args.row in
    let few = c.requires.before in
    let within = c.in_ok-said.ensures.within in
    let says = c.in_ok-said.ensures.says in
    elim c.match-said.branch [
      | in-End w ↦ rw w.result-is (record { says = (within, rw w.in-End.is at says) })
      | in-Took w ↦
          rw w.result-is
          (read_took input row c.args.before few w.in-Took.worker w.in-Took.spot (within, rw w.in-Took.is at says))
      | in-GaveBack w ↦
          rw w.result-is
          (read_gave_back input row c.args.before few w.in-GaveBack.worker w.in-GaveBack.spot
          (within, rw w.in-GaveBack.is at says))
      | in-Closed w ↦ rw w.result-is w.read_closed.ensures.found
      | in-Split w ↦ rw w.result-is w.read_split.ensures.found
      | in-Offered w ↦ rw w.result-is w.read_offered.ensures.found
      | in_default w ↦ rw w.result-is tt
    ]
