use Rattle.std.proofs.Common.{ap, get_or, []}
use Rattle.vs_reader.specs.Rows.{Row}
use Rattle.vs_trace.proofs.reading.forms.spot_row.Goals as goal

pub returns-in_err-worker-clause-none : goal.returns-in_err-worker-clause-none
returns-in_err-worker-clause-none c =
    rw c.from_residual.ensures
    (λ worker spot says. c.in_err-worker.ensures.none (worker, spot) (record {
      are_numbers = says.0;
      worker_field = ap (λ (r : Row). get_or r 1 []) says.1;
      spot_field = ap (λ (r : Row). get_or r 2 []) says.1;
    }))
