use Rattle.vs_trace.proofs.RefusedOnce.{trace_not_refused}
use Rattle.vs_trace.proofs.read_laws.traces_are_not_refused.Goals as goal

pub returns : goal.returns
returns c = λ p names before rows t at why layers trips text refused.
    trace_not_refused p names layers trips before rows t at why text refused
