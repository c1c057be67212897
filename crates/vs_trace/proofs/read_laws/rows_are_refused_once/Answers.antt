use Rattle.vs_trace.proofs.RefusedOnce.{trace_refused_once}
use Rattle.vs_trace.proofs.read_laws.rows_are_refused_once.Goals as goal

pub returns : goal.returns
returns c = λ p names before rows at to why other layers trips a b.
    trace_refused_once p names layers trips before rows at to why other a b
