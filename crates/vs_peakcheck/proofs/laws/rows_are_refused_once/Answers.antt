use Rattle.vs_peakcheck.proofs.rows.RefusedOnce.{refused_once}
use Rattle.vs_peakcheck.proofs.laws.rows_are_refused_once.Goals as goal

pub returns : goal.returns
returns c = refused_once
